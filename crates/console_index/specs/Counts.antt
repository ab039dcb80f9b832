-- Counts of bytes by span and line (own).
use Rattle.std.specs.Prelude.{◌≡◌, ℕ, zero, suc, ◌+◌, ◌<◌, List, [], slice_index, slice_index_or}

-- how many bytes a span has of a line; a missing span has none
abbrev pub count_at : List (List ℕ) → ℕ → ℕ → ℕ
count_at counts line span = slice_index (slice_index_or counts span []) line

-- how many bytes of a line the spans below one have together
unfoldable pub total : List (List ℕ) → ℕ → ℕ → ℕ
total counts line zero = 0
total counts line (suc span) = total counts line span + count_at counts line span

-- the span that sent the byte at this place of the line's whole console, and the byte's place in that span
abbrev pub IsPlace : List (List ℕ) → ℕ → ℕ → ℕ → ℕ → Type 0
IsPlace counts line place span rest =
    (total counts line span + rest ≡ place) × (rest < count_at counts line span)
