use Rattle.std.proofs.Common.{◌≡◌, ◌<◌, ℕ, [], map, length, slice_index_or}
use Rattle.r3k_pages.specs.declared.page.TheConstants.{PAGE_BLOCKS}
use Rattle.r3k_pages.proofs.whole.Whole.new.Given as goal

-- the blocks so far
abbrev pub invariant-loop-index : goal.invariant-loop-index
invariant-loop-index l = record {
  count : length l.blocks ≡ PAGE_BLOCKS;
  blocks : (block : ℕ) → block < l.index → slice_index_or (map (λ block. block.value) l.blocks) block [] ≡ slice_index_or l.parts block [];
}
