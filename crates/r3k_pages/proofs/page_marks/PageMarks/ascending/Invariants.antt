use Rattle.std.proofs.Common.{◌≡◌, ◌-◌, filter}
use Rattle.std.specs.List.{range_with_len}
use Rattle.r3k_pages.specs.Pages.{holds, page_count_of}
use Rattle.r3k_pages.proofs.page_marks.PageMarks.ascending.Given as goal

-- the pages so far
abbrev pub invariant-loop-page : goal.invariant-loop-page
invariant-loop-page g l = l.pages.items ≡ filter (holds l.self) (range_with_len 0 l.page)

abbrev pub decreases-loop-page : goal.decreases-loop-page
decreases-loop-page g l = page_count_of g.row.PAGES - l.page
