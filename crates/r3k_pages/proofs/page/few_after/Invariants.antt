use Rattle.r3k_pages.proofs.Altered.{AreFound}
use Rattle.r3k_pages.proofs.page.few_after.Given as goal

-- the blocks so far
abbrev pub invariant-loop-index : goal.invariant-loop-index
invariant-loop-index l = AreFound l.whole l.words l.marks l.first l.index l.few.items
