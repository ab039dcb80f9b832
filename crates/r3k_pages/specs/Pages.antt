-- Pages of memory (own): the words of RAM and ROM by pages of 1,024 words. Pages of RAM come first, then those of ROM.
use Rattle.std.specs.Prelude.{◌≡◌, ℕ, ◌+◌, ◌/◌, ◌<◌, Bool, false, IsFalse, List, All, filter, if◌then◌else◌, length, map, nat_eq, slice_index, slice_index_or}
use Rattle.std.specs.List.{list_any, range_with_len}
use Rattle.std.specs.List.Sorted.{IsStrictlyIncreasing}
use Rattle.r3k_word.specs.Layout.{page_of_place}
use Rattle.r3k_word.specs.declared.layout.TheConstants.{ROM_PAGES}
use Rattle.r3k_pages.specs.declared.block.TheConstants.{BLOCK_WORDS}

-- how many pages there are with this many of RAM
abbrev pub page_count_of : ℕ → ℕ
page_count_of pages = pages + ROM_PAGES

-- a set of pages is handed over as an ascending list, each page once
pub record IsPageSet (pages : ℕ) (set : List ℕ) : Type 0 where
  pub ascending : IsStrictlyIncreasing set
  pub within : All (λ page. page < page_count_of pages) set

-- the pages for which a test holds, in ascending order
abbrev pub pages_where : ℕ → (ℕ → Bool) → List ℕ
pages_where pages test = filter test (range_with_len 0 (page_count_of pages))

-- whether a page is in a set
abbrev pub holds : List ℕ → ℕ → Bool
holds set page = list_any (λ other. nat_eq other page) set

-- a page has the same words in two memories
abbrev pub SamePage : ℕ → List ℕ → List ℕ → Type 0
SamePage page a b = (place : ℕ) → page_of_place place ≡ page → slice_index a place ≡ slice_index b place

-- two memories have the same words outside a set of pages
abbrev pub SameOutside : List ℕ → List ℕ → List ℕ → Type 0
SameOutside set a b = (place : ℕ) → IsFalse (holds set (page_of_place place)) → slice_index a place ≡ slice_index b place

-- two memories have the same words outside the marked blocks
abbrev pub SameOutsideBlocks : List Bool → List ℕ → List ℕ → Type 0
SameOutsideBlocks marks a b = (place : ℕ) → IsFalse (slice_index_or marks (place / BLOCK_WORDS) false) → slice_index a place ≡ slice_index b place

-- a memory with the words of another one on the pages of a set
abbrev pub overlaid : (set own other : List ℕ) → List ℕ
overlaid set own other =
    map (λ place. if holds set (page_of_place place) then slice_index other place else slice_index own place) (range_with_len 0 (length own))
