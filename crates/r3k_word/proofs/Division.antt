-- Signed division by cases of the operands.
use Rattle.std.proofs.Common.{◌≡◌, ℕ, ◌⊎◌, inl, inr, refl}
use Rattle.std.specs.Prelude.{int_div, int_rem}
use Rattle.std.specs.Int.{w32, cast_unsigned}
use Rattle.std.proofs.lemmas.Bool.{ne_eqb, eq-eqb}
use Rattle.r3k_word.specs.Word.{signed, signed_division_of}
use Rattle.r3k_word.specs.declared.arithmetic.HiLo.{HiLo}

-- neither the divisor is 0 nor does the quotient overflow
pub divides : (a b q r : ℕ) → (b ≡ 0 → ⊥) → ((a ≡ 2147483648) × (b ≡ 4294967295 → ⊥)) ⊎ (a ≡ 2147483648 → ⊥) → q ≡ cast_unsigned w32 (int_div (signed a) (signed b)) → r ≡ cast_unsigned w32 (int_rem (signed a) (signed b)) → ◌≡◌ {A = HiLo} record { hi = r; lo = q } (signed_division_of a b)
divides a b q r nonzero (inl h) eq er = rw (ne_eqb b 0 nonzero, eq-eqb a 2147483648 h.0, ne_eqb b 4294967295 h.1, eq, er) refl
divides a b q r nonzero (inr h) eq er = rw (ne_eqb b 0 nonzero, ne_eqb a 2147483648 h, eq, er) refl
