use Rattle.std.proofs.Common.{◌≡◌, ℕ, ◌/◌, ◌<◌, ◌≤◌, IsFalse, IsTrue, false, length, slice_index, slice_index_or}
use Rattle.r3k_live.specs.Stores.{AreInBlocks}
use Rattle.r3k_pages.specs.declared.block.TheConstants.{BLOCK_WORDS}
use Rattle.r3k_live.proofs.stores.forget_page.Given as goal

-- no word of the blocks so far has a step, and none of these blocks is marked
abbrev pub invariant-loop-block : goal.invariant-loop-block
invariant-loop-block l = record {
  long : length l.last.items ≡ length l.fn.last.items;
  whole : length l.blocks.items ≡ length l.fn.blocks.items;
  blocks : AreInBlocks l.last.items l.blocks.items;
  none : (place : ℕ) → l.first ≤ place / BLOCK_WORDS → place / BLOCK_WORDS < l.block → slice_index l.last.items place ≡ 0;
  fewer : (place : ℕ) → 0 < slice_index l.last.items place → 0 < slice_index l.fn.last.items place;
  unmarked : (block : ℕ) → l.first ≤ block → block < l.block → IsFalse (slice_index_or l.blocks.items block false);
  fewer_marked : (block : ℕ) → IsTrue (slice_index_or l.blocks.items block false) → IsTrue (slice_index_or l.fn.blocks.items block false);
}
