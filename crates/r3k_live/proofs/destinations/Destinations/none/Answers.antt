use Rattle.std.proofs.Common.{◌≡◌, ◌<◌, ◌^◌, ℕ, replicate, slice_index, refl, sym, subst, arith, inl, inr}
use Rattle.std.proofs.lemmas.Bool.{cases_lt}
use Rattle.std.proofs.lemmas.List.{get_or-replicate, get_or_past, length-replicate}
use Rattle.r3k_live.proofs.destinations.Destinations.none.Goals as goal

all_none : (number : ℕ) → slice_index (replicate 35 0) number ≡ 0
all_none number =
    elim (cases_lt number 35) [
      | inl within ↦ get_or-replicate 35 number 0 0 within
      | inr past ↦ get_or_past (replicate 35 0) number 0 (omega (arith, past, length-replicate {A = ℕ} 35 0))
    ]

pub returns : goal.returns
returns c = all_none

pub invariant_of-result : goal.invariant_of-result
invariant_of-result c = (refl, λ number. subst (λ (n : ℕ). n < 2 ^ 32) (sym (all_none number)) (let e : 0 < 2 ^ 32 = omega arith in e))
