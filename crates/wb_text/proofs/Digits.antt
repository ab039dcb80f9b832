-- A number is read digit by digit, as long as it fits a word of 64 bits.
use Rattle.std.proofs.Common.{◌≡◌, ℕ, ◌+◌, ◌*◌, ◌^◌, ◌<◌, ◌≤◌, Option, Some, None, if◌then◌else◌, nat_lt, refl, sym, ap, ◌∙◌, arith, ⊎_elim, subst}
use Rattle.std.proofs.Math.Nat.{mul-le-mul_left}
use Rattle.std.specs.Option.{MatchOption, SomeIff}
use Rattle.std.proofs.lemmas.Bool.{lt-ltb, le-ltb, cases_lt}

-- the number, if it fits
abbrev pub in_word : ℕ → Option ℕ
in_word number = if nat_lt number (2 ^ 64) then Some number else None

in_word-fits : (n : ℕ) → n < 2 ^ 64 → in_word n ≡ Some n
in_word-fits n fits = rw (lt-ltb n (2 ^ 64) fits) refl

in_word-over : (n : ℕ) → 2 ^ 64 ≤ n → in_word n ≡ None
in_word-over n over = rw (le-ltb n (2 ^ 64) over) refl

-- one more digit of a number that fits
more_fits : (n base d : ℕ) (c : Option ℕ) → SomeIff c (n * base + d < 2 ^ 64) (n * base + d)
    → c ≡ in_word (n * base + d)
more_fits n base d None over =
    sym (in_word-over (n * base + d) (⊎_elim (λ fits. absurd (over fits)) (λ large. large) (cases_lt (n * base + d) (2 ^ 64))))
more_fits n base d (Some c) sum = ap Some sum.1 ∙ sym (in_word-fits (n * base + d) sum.0)

one_of : (base : ℕ) → 2 ≤ base → 1 ≤ base
one_of base least = omega arith

-- one more digit
pub in_word-more : (n base d : ℕ) (a c : Option ℕ) → 2 ≤ base → a ≡ in_word n
    → MatchOption a (c ≡ None) (λ x. SomeIff c (x * base + d < 2 ^ 64) (x * base + d))
    → c ≡ in_word (n * base + d)
in_word-more n base d a c least is more =
    let at : (o : Option ℕ) → a ≡ o → MatchOption o (c ≡ None) (λ x. SomeIff c (x * base + d < 2 ^ 64) (x * base + d)) =
    λ o same. subst (λ v. MatchOption v (c ≡ None) (λ x. SomeIff c (x * base + d < 2 ^ 64) (x * base + d))) same more in
    ⊎_elim
    (λ fits. more_fits n base d c (at (Some n) (is ∙ in_word-fits n fits)))
    (λ over. at None (is ∙ in_word-over n over) ∙ sym (in_word-over (n * base + d) (omega (arith, mul-le-mul_left n (one_of base least)))))
    (cases_lt n (2 ^ 64))
