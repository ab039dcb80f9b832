-- Bytes that were sent, by their lines (own).
use Rattle.std.specs.Prelude.{◌≡◌, ℕ, ◌+◌, ◌==◌, List, length, Option, Some, None, Result, Ok, Err, if◌then◌else◌, slice_get}
use Rattle.std.specs.List.{filter_map}
use Rattle.r3k_live.specs.declared.recorder.SentAt.{SentAt}

-- what is made of a byte, if it was sent on this line
abbrev pub on_line : ℕ → (SentAt → ℕ) → SentAt → Option ℕ
on_line line part sent = if sent.line == line then Some (part sent) else None

-- the bytes of a line, and the steps that sent them
abbrev pub bytes_on : ℕ → List SentAt → List ℕ
bytes_on line sent = filter_map (on_line line (λ one. one.byte)) sent

abbrev pub steps_on : ℕ → List SentAt → List ℕ
steps_on line sent = filter_map (on_line line (λ one. one.step)) sent

-- the item at a place of a list, or how many places are left after its end
abbrev pub Seeks : List ℕ → (place : ℕ) → Result ℕ ℕ → Type 0
Seeks all place (Ok found) = slice_get all place ≡ Some found
Seeks all place (Err left) = length all + left ≡ place
