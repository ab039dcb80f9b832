use Rattle.std.proofs.Common.{◌≡◌, ◌<◌, ◌≤◌, ℕ, length, slice_index}
use Rattle.r3k_word.specs.Layout.{page_of_place, word_count_of}
use Rattle.r3k_pages.proofs.snapshot.Snapshot.copy_to.Given as goal

-- the pages so far
abbrev pub invariant-loop-page : goal.invariant-loop-page
invariant-loop-page g l = record {
  whole : length l.words ≡ word_count_of g.row.PAGES;
  same : (place : ℕ) → page_of_place place < l.page → slice_index l.words place ≡ slice_index l.self place;
  rest : (place : ℕ) → l.page ≤ page_of_place place → slice_index l.words place ≡ slice_index l.fn.words place;
}
