use Rattle.std.proofs.Common.{◌≡◌, ◌<◌, ◌≤◌, ◌↔◌, ◌⊎◌, ℕ, IsFalse, IsTrue, vec_capacity}
use Rattle.r3k_pages.specs.Marking.{AreMarked}
use Rattle.r3k_pages.specs.Pages.{SamePage, holds}
use Rattle.r3k_pages.proofs.page_marks.mark_differing.Given as goal

-- the pages so far
abbrev pub invariant-loop-page : goal.invariant-loop-page
invariant-loop-page g l = record {
  marked : AreMarked g.row.PAGES (vec_capacity l.pages) l.marks.items l.pages.items;
  same : (page : ℕ) → page < l.page → IsFalse (holds l.pages.items page) → SamePage page l.a l.b;
  exact : (page : ℕ) → page < l.page → IsTrue (holds l.pages.items page) ↔ (IsTrue (holds l.fn.pages.items page) ⊎ ¬ SamePage page l.a l.b);
  rest : (page : ℕ) → l.page ≤ page → holds l.pages.items page ≡ holds l.fn.pages.items page;
}
