use Rattle.std.proofs.Common.{◌*◌}
use Rattle.r3k_pages.specs.declared.block.TheConstants.{BLOCK_WORDS}
use Rattle.r3k_live.proofs.Holding.{AreHeld}
use Rattle.r3k_live.proofs.stores.hold_page.Given as goal

-- the words of the blocks so far
abbrev pub invariant-loop-block : goal.invariant-loop-block
invariant-loop-block l = AreHeld l.since (l.first * BLOCK_WORDS) (l.block * BLOCK_WORDS) l.last l.words l.fn.held.items l.held.items
