-- Digits of a number in decimal, and how much room it takes.
use Rattle.std.proofs.Common.{◌≡◌, ℕ, ◌+◌, ◌/◌, ◌%◌, ◌^◌, ◌<◌, ◌≤◌, List, [], ◌∷◌, ◌++◌, false, length, arith, ap, sym, ◌∙◌, refl, append_assoc}
use Rattle.std.specs.Fmt.{decimal, digit_glyph}
use Rattle.std.proofs.lemmas.Bool.{lt-ltb}
use Rattle.std.proofs.lemmas.List.{length-append}
use Rattle.std.proofs.lemmas.Fmt.{length-decimal-le, decimal_digit, decimal_step}

-- all digits but the last of a number of seven digits
pub front_room : (old new : List ℕ) (n : ℕ) → n < 10 ^ 7 → new ≡ old ++ decimal (n / 10)
    → length new ≤ length old + 6
front_room old new n fits is =
    let short : length (decimal (n / 10)) ≤ 6 = length-decimal-le 6 (n / 10) (omega arith) (omega arith) (omega arith) in
    omega (arith, ap length is, length-append old (decimal (n / 10)))

-- a decimal digit
glyph : (n : ℕ) → n < 10 → digit_glyph false n ≡ 48 + n
glyph n small = rw (lt-ltb n 10 small) refl

-- a number of one digit
pub one_digit : (n : ℕ) → n < 10 → decimal n ≡ digit_glyph false n ∷ []
one_digit n small = decimal_digit n small ∙ ap (λ d. d ∷ []) (sym (glyph n small))

-- the last digit after the others
pub last_digit : (old : List ℕ) (n : ℕ) → 10 ≤ n → n < 10 ^ 7
    → (old ++ decimal (n / 10)) ++ digit_glyph false (n % 10) ∷ [] ≡ old ++ decimal n
last_digit old n large fits =
    let step : decimal n ≡ decimal (n / 10) ++ ((48 + n % 10) ∷ []) = decimal_step n large (omega arith) in
    rw (step, glyph (n % 10) (omega arith), append_assoc) refl
