-- Numbers in a script line (own): decimal digits, or 0x and hexadecimal digits of either case. A
-- number has no greatest value here.
use Rattle.std.specs.Prelude.{ℕ, ◌^◌, List, Option, Some, None, Result, Ok, Err, if◌then◌else◌, nat_lt, nat_le, length, ◌&&◌, drop, nat_eq, codes}
use Rattle.std.specs.List.{list_all, starts_with}
use Rattle.std.specs.Char.{is_digit}
use Rattle.std.specs.Str.Parse.{digits_value}
use Rattle.refusal.specs.declared.fault.Fault.{Fault}
use Rattle.refusal.specs.declared.fault.Fault.TheVariants.{Syntax, Range}

-- the number of these digits of a base: at least one, and all are digits of the base
abbrev pub number_in : ℕ → List ℕ → Option ℕ
number_in base digits =
    if nat_lt 0 (length digits) && list_all (λ digit. is_digit digit base) digits
    then Some (digits_value base digits) else None

-- the number that a word is: decimal, or hexadecimal after 0x
abbrev pub number_of : List ℕ → Option ℕ
number_of word =
    if starts_with nat_eq word (codes "0x") then number_in 16 (drop 2 word) else number_in 10 word

-- one number of a command: a word that is no number is Syntax, and a number above 2^64 - 1 is Range
abbrev pub number_in_range : Option ℕ → Result ℕ Fault
number_in_range None = Err Syntax
number_in_range (Some number) = if nat_lt number (2 ^ 64) then Ok number else Err Range

-- one number of a command that allows a range: no number is Syntax, one outside the range Range
abbrev pub number_within : (least most : ℕ) → Option ℕ → Result ℕ Fault
number_within least most None = Err Syntax
number_within least most (Some number) = if nat_le least number && nat_le number most then Ok number else Err Range
