use Rattle.std.proofs.Common.{◌≡◌, ◌<◌, ◌*◌, ℕ, length, slice_index}
use Rattle.r3k_word.specs.declared.layout.TheConstants.{PAGE_WORDS}
use Rattle.r3k_pages.specs.declared.block.TheConstants.{BLOCK_WORDS}
use Rattle.r3k_pages.proofs.whole.Whole.copy_to.Given as goal

-- the blocks so far
abbrev pub invariant-loop-index : goal.invariant-loop-index
invariant-loop-index l = record {
  whole : length l.words ≡ PAGE_WORDS;
  same : (place : ℕ) → place < l.index * BLOCK_WORDS → slice_index l.words place ≡ slice_index l.self place;
}
