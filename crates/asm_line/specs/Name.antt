-- Names of labels and of registers (own).
use Rattle.std.specs.Prelude.{ℕ, ◌+◌, ◌-◌, ◌*◌, ◌==◌, ◌&&◌, not, Bool, List, length, slice_index, nat_lt, nat_le, Option, Some, None, if◌then◌else◌}
use Rattle.asm_line.specs.Span.{is_decimal}

-- a word of letters, digits and _ is a name if it has at most 32 bytes and does not begin with a digit
abbrev pub is_name : List ℕ → Bool
is_name word = nat_lt 0 (length word) && (nat_le (length word) 32 && not (is_decimal (slice_index word 0)))

-- a digit as a number
abbrev pub digit_of : ℕ → ℕ
digit_of byte = byte - 48

-- the number of a register after a letter: 0 to 31 in decimal, without zeros before it
unfoldable pub register_of : ℕ → List ℕ → Option ℕ
register_of letter word =
    if (length word == 2) && ((slice_index word 0 == letter) && is_decimal (slice_index word 1)) then Some (digit_of (slice_index word 1))
    else (if (length word == 3) && ((slice_index word 0 == letter) && ((nat_le 49 (slice_index word 1) && nat_le (slice_index word 1) 51)
    && (is_decimal (slice_index word 2) && nat_lt (10 * digit_of (slice_index word 1) + digit_of (slice_index word 2)) 32)))
    then Some (10 * digit_of (slice_index word 1) + digit_of (slice_index word 2))
    else None)
