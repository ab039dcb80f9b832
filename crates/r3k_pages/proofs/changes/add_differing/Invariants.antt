use Rattle.r3k_pages.proofs.Altered.{AreAdded}
use Rattle.r3k_pages.proofs.changes.add_differing.Given as goal

-- the words so far
abbrev pub invariant-loop-index : goal.invariant-loop-index
invariant-loop-index l = AreAdded l.block l.index l.kept l.words l.fn.changes.items l.changes.items
