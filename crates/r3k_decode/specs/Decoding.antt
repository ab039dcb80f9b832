-- The row of a word, and what a word says, after Kane and Heinrich, appendix A.
use Rattle.std.specs.Prelude.{ℕ, ◌+◌, Option, option_and_then, slice_get}
use Rattle.std.specs.Option.{option_map_or, option_map}
use Rattle.r3k_table.specs.Table.{instructions, row_of}
use Rattle.r3k_decode.specs.Operation.{Operation, read_as, placed}

-- what a word says, where it has a row
abbrev pub operation_of : ℕ → Option Operation
operation_of word = option_and_then (λ row. option_map (λ r. read_as row r.shape word) (slice_get instructions row)) (row_of word)

-- the word of an instruction: the value of its row, and its fields where they stand
abbrev pub word_of : Operation → ℕ
word_of i = option_map_or (λ r. r.value + placed r.shape i) (slice_get instructions i.row) 0
