use Rattle.std.proofs.Common.{◌≡◌, ℕ, ◌/◌, IsFalse, IsTrue, false, length, slice_index_or, take}
use Rattle.r3k_pages.specs.Pages.{holds}
use Rattle.r3k_pages.specs.declared.page.TheConstants.{PAGE_BLOCKS}
use Rattle.r3k_live.proofs.changes.mark_all.Given as goal

-- the marks of the pages so far are there
abbrev pub invariant-loop-page : goal.invariant-loop-page
invariant-loop-page g l = record {
  long : length l.marks.items ≡ length l.fn.marks.items;
  kept : (block : ℕ) → IsFalse (slice_index_or l.marks.items block false) → IsFalse (slice_index_or l.fn.marks.items block false);
  added : (block : ℕ) → IsTrue (holds (take l.page-index l.pages) (block / PAGE_BLOCKS)) → IsFalse (slice_index_or l.marks.items block false) → IsFalse (slice_index_or l.more block false);
}
