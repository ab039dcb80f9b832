use Rattle.std.proofs.Common.{◌≡◌, ◌+◌}
use Rattle.console_index.specs.Counts.{total}
use Rattle.console_index.proofs.index.ConsoleIndex.find.Given as goal

-- how many places are left after the spans so far
abbrev pub invariant-loop-span : goal.invariant-loop-span
invariant-loop-span l = total l.self l.line l.span + l.left ≡ l.place
