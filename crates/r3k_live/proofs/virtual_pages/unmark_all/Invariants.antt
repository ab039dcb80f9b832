use Rattle.std.proofs.Common.{◌≡◌, ◌&&◌, ℕ, false, length, not, slice_index_or, take}
use Rattle.r3k_pages.specs.Pages.{holds}
use Rattle.r3k_live.proofs.virtual_pages.unmark_all.Given as goal

-- the pages so far
abbrev pub invariant-loop-page : goal.invariant-loop-page
invariant-loop-page l = record {
  long : length l.marks.items ≡ length l.fn.marks.items;
  marked : (page : ℕ) → slice_index_or l.marks.items page false ≡ (slice_index_or l.fn.marks.items page false && not (holds (take l.page-index l.pages) page));
}
