use Rattle.std.proofs.Common.{◌≡◌, ℕ, ◌||◌, take, vec_capacity}
use Rattle.r3k_pages.specs.Marking.{AreMarked}
use Rattle.r3k_pages.specs.Pages.{holds}
use Rattle.r3k_pages.proofs.page_marks.mark_all.Given as goal

-- the pages so far
abbrev pub invariant-loop-page : goal.invariant-loop-page
invariant-loop-page g l = record {
  marked : AreMarked g.row.PAGES (vec_capacity l.pages) l.marks.items l.pages.items;
  held : (page : ℕ) → holds l.pages.items page ≡ (holds l.fn.pages.items page || holds (take l.page-index l.added) page);
}
