-- How operands print numbers (own): hexadecimal with a fixed number of lower-case digits, and a half word as a signed number.
use Rattle.std.specs.Prelude.{ℕ, zero, suc, ◌-◌, ◌/◌, ◌%◌, ◌^◌, List, [], ◌∷◌, ◌++◌, codes, false, nat_lt, if◌then◌else◌}
use Rattle.std.specs.Fmt.{decimal, digit_glyph}

-- the lowest n hexadecimal digits of a number, in lower case
unfoldable pub hexadecimal : ℕ → ℕ → List ℕ
hexadecimal zero number = []
hexadecimal (suc count) number = hexadecimal count (number / 16) ++ digit_glyph false (number % 16) ∷ []

-- a half word as a signed number in decimal
abbrev pub signed_text : ℕ → List ℕ
signed_text half = if nat_lt half (2 ^ 15) then decimal half else codes "-" ++ decimal (2 ^ 16 - half)
