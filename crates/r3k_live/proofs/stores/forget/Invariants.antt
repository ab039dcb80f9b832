use Rattle.std.proofs.Common.{◌≡◌, ℕ, ◌/◌, IsFalse, IsTrue, false, length, slice_index, slice_index_or, take}
use Rattle.r3k_word.specs.Layout.{page_of_place}
use Rattle.r3k_pages.specs.Pages.{holds}
use Rattle.r3k_live.specs.Stores.{AreInBlocks, AreInPages, HaveTheirPages}
use Rattle.r3k_pages.specs.declared.page.TheConstants.{PAGE_BLOCKS}
use Rattle.r3k_live.proofs.stores.forget.Given as goal

-- no word of the pages so far has a step, and none of their blocks is marked
abbrev pub invariant-loop-page : goal.invariant-loop-page
invariant-loop-page g l = record {
  long : length l.last.items ≡ length l.fn.last.items;
  whole : length l.blocks.items ≡ length l.fn.blocks.items;
  blocks : AreInBlocks l.last.items l.blocks.items;
  left : AreInPages l.last.items l.pages;
  none : (place : ℕ) → IsTrue (holds (take l.page-index l.pages) (page_of_place place)) → slice_index l.last.items place ≡ 0;
  left_marked : HaveTheirPages l.blocks.items l.pages;
  unmarked : (block : ℕ) → IsTrue (holds (take l.page-index l.pages) (block / PAGE_BLOCKS)) → IsFalse (slice_index_or l.blocks.items block false);
}
