-- Hexadecimal digits, the last after the others.
use Rattle.std.proofs.Common.{◌≡◌, ℕ, ◌-◌, ◌/◌, ◌%◌, ◌<◌, List, [], ◌∷◌, ◌++◌, zero, suc, false, arith, sym, refl, append_assoc, append-nil}
use Rattle.std.specs.Fmt.{digit_glyph}
use Rattle.r3k_disasm.specs.Number.{hexadecimal}

pub no_digits : (old : List ℕ) (count n : ℕ) → count ≡ 0 → old ≡ old ++ hexadecimal count n
unfolding hexadecimal
no_digits old zero n is = sym (append-nil old)
no_digits old (suc count) n is = absurd (omega arith)

pub last_digit : (old : List ℕ) (count n : ℕ) → 0 < count
    → (old ++ hexadecimal (count - 1) (n / 16)) ++ digit_glyph false (n % 16) ∷ [] ≡ old ++ hexadecimal count n
unfolding hexadecimal
last_digit old zero n some = absurd (omega arith)
last_digit old (suc count) n some = let e : suc count - 1 ≡ count = omega arith in rw (e, append_assoc) refl
