-- The rows of registers, and the lines of words, one after the other.
use Rattle.std.proofs.Common.{◌≡◌, ℕ, ◌+◌, ◌*◌, ◌%◌, ◌^◌, Bool, List, slice_index, [], ◌++◌, refl, add-one}
use Rattle.wb_text.specs.Text.{line}
use Rattle.wb_text.specs.Reply.{row_text, rows_text, memory_text, words_text}

pub rows_text-zero : (registers : List ℕ) → rows_text registers 0 ≡ []
unfolding rows_text
rows_text-zero registers = refl

pub rows_text-more : (registers : List ℕ) (row : ℕ)
    → rows_text registers (row + 1) ≡ rows_text registers row ++ line (row_text registers (4 * row))
unfolding rows_text
rows_text-more registers row = rw add-one refl

pub words_text-zero : (instructions : Bool) (address : ℕ) (words : List ℕ) → words_text instructions address words 0 ≡ []
unfolding words_text
words_text-zero instructions address words = refl

pub words_text-more : (instructions : Bool) (address : ℕ) (words : List ℕ) (place : ℕ)
    → words_text instructions address words (place + 1)
    ≡ words_text instructions address words place ++ line (memory_text instructions ((address + 4 * place) % 2 ^ 32) (slice_index words place))
unfolding words_text
words_text-more instructions address words place = rw add-one refl
