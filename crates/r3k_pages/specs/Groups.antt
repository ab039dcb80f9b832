-- How a snapshot keeps pages (own): by groups, so that the table of a snapshot is short.
use Rattle.std.specs.Prelude.{◌≡◌, ℕ, ◌+◌, ◌/◌, ◌%◌, ◌<◌, Bool, List, [], map, nat_eq, slice_index, slice_index_or}
use Rattle.std.specs.List.{list_all, range_with_len}
use Rattle.r3k_word.specs.Layout.{page_of_place, word_count_of}
use Rattle.r3k_word.specs.declared.layout.TheConstants.{PAGE_WORDS}
use Rattle.r3k_pages.specs.declared.group.TheConstants.{GROUP_PAGES}
use Rattle.r3k_pages.specs.Pages.{page_count_of}

-- how many groups hold all pages
abbrev pub group_count_of : ℕ → ℕ
group_count_of pages = (page_count_of pages + 31) / GROUP_PAGES

-- the word at a place
abbrev pub word_in : List (List (List ℕ)) → ℕ → ℕ
word_in groups place =
    slice_index (slice_index_or (slice_index_or groups (page_of_place place / GROUP_PAGES) []) (page_of_place place % GROUP_PAGES) []) (place % PAGE_WORDS)

-- all words
abbrev pub words_in : ℕ → List (List (List ℕ)) → List ℕ
words_in pages groups = map (word_in groups) (range_with_len 0 (word_count_of pages))

-- whether all words of a page are 0
abbrev pub is_blank : List ℕ → Bool
is_blank words = list_all (λ word. nat_eq word 0) words

-- the words of a page of a memory
abbrev pub IsPageOf : List ℕ → ℕ → List ℕ → Type 0
IsPageOf words page kept = (place : ℕ) → page_of_place place ≡ page → slice_index kept (place % PAGE_WORDS) ≡ slice_index words place

-- the words of a group of pages, as far as there are pages
abbrev pub IsGroupOf : ℕ → List ℕ → ℕ → List (List ℕ) → Type 0
IsGroupOf pages words group kept =
    (place : ℕ) → place < word_count_of pages → page_of_place place / GROUP_PAGES ≡ group
    → slice_index (slice_index_or kept (page_of_place place % GROUP_PAGES) []) (place % PAGE_WORDS) ≡ slice_index words place
