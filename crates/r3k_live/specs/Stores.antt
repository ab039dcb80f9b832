-- How the last step that stored into each word is kept (own). Words are taken in blocks, so that few of them are looked at.
use Rattle.std.specs.Prelude.{◌≡◌, ℕ, zero, suc, ◌+◌, ◌*◌, ◌/◌, ◌<◌, ◌≤◌, Bool, false, IsTrue, List, [], ◌∷◌, ◌++◌, length, slice_index, slice_index_or}
use Rattle.r3k_word.specs.Layout.{page_of_place}
use Rattle.r3k_word.specs.declared.layout.TheConstants.{MAX_RAM_PAGES, PAGE_WORDS}
use Rattle.r3k_pages.specs.Pages.{holds}
use Rattle.r3k_live.specs.declared.recorder.Written.{Written}
use Rattle.r3k_pages.specs.declared.block.TheConstants.{BLOCK_WORDS}
use Rattle.r3k_pages.specs.declared.page.TheConstants.{PAGE_BLOCKS}

-- for each word of RAM one more than the last step that stored into it, or 0, and the pages that were stored into
pub record Stores : Type 0 where
  pub last : List ℕ
  pub dirty : List ℕ

-- a word with its step, where it has one
abbrev pub written_at : (place kept : ℕ) → List Written
written_at place zero = []
written_at place (suc step) = record { place = place; step = step } ∷ []

-- those of n words from one on that have a step, in ascending order, each with this step
unfoldable pub writers_in : (first n : ℕ) → (last : List ℕ) → List Written
writers_in first zero last = []
writers_in first (suc n) last = writers_in first n last ++ written_at (first + n) (slice_index last (first + n))

-- the block of each word that has a step is marked
abbrev pub AreInBlocks : (last : List ℕ) → (blocks : List Bool) → Type 0
AreInBlocks last blocks = (place : ℕ) → 0 < slice_index last place → IsTrue (slice_index_or blocks (place / BLOCK_WORDS) false)

-- the page of each word that has a step is there
abbrev pub AreInPages : (last pages : List ℕ) → Type 0
AreInPages last pages = (place : ℕ) → 0 < slice_index last place → IsTrue (holds pages (page_of_place place))

-- the page of each marked block is there
abbrev pub HaveTheirPages : (blocks : List Bool) → (pages : List ℕ) → Type 0
HaveTheirPages blocks pages = (block : ℕ) → IsTrue (slice_index_or blocks block false) → IsTrue (holds pages (block / PAGE_BLOCKS))

pub record AreKept (pages : ℕ) (last : List ℕ) (blocks : List Bool) (dirty : List ℕ) : Type 0 where
  pub few : pages ≤ MAX_RAM_PAGES
  pub long : length last ≡ pages * PAGE_WORDS
  pub whole : length blocks ≡ pages * PAGE_BLOCKS
  pub blocks_marked : AreInBlocks last blocks
  pub pages_marked : AreInPages last dirty
  pub dirty_marked : HaveTheirPages blocks dirty
