use Rattle.std.proofs.Common.{◌≡◌, ◌<◌, ℕ, ◌/◌, ◌%◌, [], map, length, slice_index, slice_index_or}
use Rattle.r3k_word.specs.Layout.{page_of_place, word_count_of}
use Rattle.r3k_word.specs.declared.layout.TheConstants.{PAGE_WORDS}
use Rattle.r3k_pages.specs.declared.group.TheConstants.{GROUP_PAGES}
use Rattle.r3k_pages.proofs.group.copied_group.Given as goal

-- the pages so far
abbrev pub invariant-loop-index : goal.invariant-loop-index
invariant-loop-index g l = record {
  count : length l.pages.items ≡ l.index;
  pages : (place : ℕ) → place < word_count_of g.row.PAGES → page_of_place place / GROUP_PAGES ≡ l.group → page_of_place place % GROUP_PAGES < l.index →
      slice_index (slice_index_or (map (λ page. page.value) l.pages.items) (page_of_place place % GROUP_PAGES) []) (place % PAGE_WORDS) ≡ slice_index l.words place;
}
