use Rattle.r3k_live.proofs.Holding.{AreHeld}
use Rattle.r3k_live.proofs.stores.hold_block.Given as goal

-- the words so far
abbrev pub invariant-loop-place : goal.invariant-loop-place
invariant-loop-place l = AreHeld l.since l.first l.place l.last l.words l.fn.held.items l.held.items
