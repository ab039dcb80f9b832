-- How a whole page keeps its words (own): in blocks, so that one with other words shares all blocks but theirs.
use Rattle.std.specs.Prelude.{◌≡◌, ℕ, ◌+◌, ◌*◌, ◌/◌, ◌%◌, ◌<◌, List, [], length, map, slice_index, slice_index_or}
use Rattle.std.specs.List.{range_with_len}
use Rattle.r3k_pages.specs.declared.block.TheConstants.{BLOCK_WORDS}

-- the word at a place of a page
abbrev pub word_of : List (List ℕ) → ℕ → ℕ
word_of blocks place = slice_index (slice_index_or blocks (place / BLOCK_WORDS) []) (place % BLOCK_WORDS)

-- all words of a page
abbrev pub words_of : List (List ℕ) → List ℕ
words_of blocks = map (word_of blocks) (range_with_len 0 (length blocks * BLOCK_WORDS))

-- the words of a block of a page
abbrev pub IsBlockOf : List ℕ → ℕ → List ℕ → Type 0
IsBlockOf words block kept = (place : ℕ) → place < BLOCK_WORDS → slice_index kept place ≡ slice_index words (block * BLOCK_WORDS + place)

-- a block has the same words in two pages
abbrev pub SameBlock : ℕ → List ℕ → List ℕ → Type 0
SameBlock block a b = (place : ℕ) → place < BLOCK_WORDS → slice_index a (block * BLOCK_WORDS + place) ≡ slice_index b (block * BLOCK_WORDS + place)
