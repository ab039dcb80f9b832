use Rattle.std.proofs.Common.{◌≡◌, length}
use Rattle.r3k_live.proofs.changes.unmark.Given as goal

-- as many marks
abbrev pub invariant-loop-page : goal.invariant-loop-page
invariant-loop-page g l = length l.marks.items ≡ length l.fn.marks.items
