use Rattle.std.proofs.Common.{◌≡◌, ◌&&◌, ℕ, false, length, not, slice_index_or, take}
use Rattle.r3k_pages.specs.Pages.{holds, page_count_of}
use Rattle.r3k_pages.proofs.page_marks.unmark_all.Given as goal

-- the pages so far
abbrev pub invariant-loop-page : goal.invariant-loop-page
invariant-loop-page g l = record {
  long : length l.marks.items ≡ page_count_of g.row.PAGES;
  marked : (page : ℕ) → slice_index_or l.marks.items page false ≡ (slice_index_or l.fn.marks.items page false && not (holds (take l.page-index l.pages) page));
}
