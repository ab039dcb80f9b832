-- Numbers (own): decimal digits, or 0x and hexadecimal digits of either case. No operand takes 2^32 or more, so each larger
-- number is read as 2^32.
use Rattle.std.specs.Prelude.{ℕ, ◌^◌, min, List, Option, Some, None, if◌then◌else◌, nat_lt, length, ◌&&◌, drop, nat_eq, codes}
use Rattle.std.specs.List.{list_all, starts_with}
use Rattle.std.specs.Char.{is_digit}
use Rattle.std.specs.Str.Parse.{digits_value}

-- at least one digit, and all are digits of the base
abbrev pub digits_of : ℕ → List ℕ → Option ℕ
digits_of base digits =
    if nat_lt 0 (length digits) && list_all (λ digit. is_digit digit base) digits
    then Some (min (digits_value base digits) (2 ^ 32)) else None

-- the number that a word is: 0x comes before hexadecimal digits
unfoldable pub number_of : List ℕ → Option ℕ
number_of word =
    if starts_with nat_eq word (codes "0x") then digits_of 16 (drop 2 word) else digits_of 10 word
