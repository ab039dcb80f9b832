use Rattle.std.proofs.Common.{◌≡◌, ℕ, ◌/◌, ◌<◌, ◌≤◌, length, slice_index}
use Rattle.r3k_pages.specs.declared.block.TheConstants.{BLOCK_WORDS}
use Rattle.r3k_live.proofs.stores.forget_block.Given as goal

-- the words so far
abbrev pub invariant-loop-place : goal.invariant-loop-place
invariant-loop-place l = record {
  long : length l.last.items ≡ length l.fn.last.items;
  none : (place : ℕ) → l.first ≤ place → place < l.place → slice_index l.last.items place ≡ 0;
  others : (place : ℕ) → ¬ (place / BLOCK_WORDS ≡ l.block) → slice_index l.last.items place ≡ slice_index l.fn.last.items place;
}
