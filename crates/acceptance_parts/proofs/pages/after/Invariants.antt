use Rattle.std.proofs.Common.{◌≡◌, length}
use Rattle.r3k_word.specs.Layout.{word_count_of}
use Rattle.r3k_pages.specs.Pages.{SameOutside}
use Rattle.acceptance_parts.proofs.pages.after.Given as goal

-- only pages of the set are written
abbrev pub invariant-loop-page : goal.invariant-loop-page
invariant-loop-page g l = record {
  whole : length l.words.items ≡ word_count_of g.row.PAGES;
  same : SameOutside l.dirty l.earlier l.words.items;
}
