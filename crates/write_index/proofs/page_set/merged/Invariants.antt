use Rattle.std.proofs.Common.{◌+◌, ◌-◌, length}
use Rattle.write_index.proofs.Merge.{IsMerged}
use Rattle.write_index.proofs.page_set.merged.Given as goal

-- the pages so far
abbrev pub invariant-loop-i : goal.invariant-loop-i
invariant-loop-i l = IsMerged l.a l.b l.i l.j l.pages.items

abbrev pub decreases-loop-i : goal.decreases-loop-i
decreases-loop-i l = length l.a + length l.b - (l.i + l.j)
