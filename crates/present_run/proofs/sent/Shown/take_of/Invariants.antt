use Rattle.std.proofs.Common.{ℕ, ◌+◌, ◌≤◌, ◌++◌, List, take}
use Rattle.present_run.specs.Console.{Shows}
use Rattle.present_run.specs.Sent.{bytes_on}
use Rattle.present_run.proofs.sent.Shown.take_of.Given as goal

-- those so far are taken
abbrev pub invariant-loop-one : goal.invariant-loop-one
invariant-loop-one l = record {
  shows : (console : List ℕ) → Shows l.from l.count console l.fn.self → Shows l.from l.count (console ++ bytes_on l.line (take l.one-index l.sent)) l.self;
  few : l.self.total ≤ l.fn.self.total + l.one-index;
}
