-- A write of a register and then of 0 into r0 is a write that leaves r0 as it is.
use Rattle.std.proofs.Common.{◌≡◌, ℕ, zero, suc, ◌<◌, List, [], ◌∷◌, length, slice_set, nat_eq, false, sym, ap, arith, inl, inr}
use Rattle.std.proofs.lemmas.Bool.{cases_Bool, eqb-true}
use Rattle.r3k_machine.specs.Core.{HoldsZero}
use Rattle.r3k_machine.specs.State.{with_register}

-- a number that is not 0
is_not_zero : (n : ℕ) → nat_eq (suc n) 0 ≡ false
is_not_zero n = elim (cases_Bool (nat_eq (suc n) 0)) [
  | inl same ↦ absurd (omega (arith, eqb-true (suc n) 0 same))
  | inr apart ↦ apart
]

pub zeroed : (registers : List ℕ) (number value : ℕ) → 0 < length registers → HoldsZero registers
    → slice_set (slice_set registers number value) 0 0 ≡ with_register registers number value
zeroed [] number value some none = absurd (omega (arith, some))
zeroed (first ∷ rest) zero value some none = ap (λ (n : ℕ). n ∷ rest) (sym none)
zeroed (first ∷ rest) (suc number) value some none =
    rw (is_not_zero number) (ap (λ (n : ℕ). n ∷ slice_set rest number value) (sym none))
