use Rattle.std.proofs.Common.{◌≡◌, ◌+◌, length, take}
use Rattle.present_run.specs.Sent.{steps_on}
use Rattle.present_run.proofs.sent.seek.Given as goal

-- how many places are left after those that were searched
abbrev pub invariant-loop-one : goal.invariant-loop-one
invariant-loop-one l = length (steps_on l.line (take l.one-index l.sent)) + l.left ≡ l.place
