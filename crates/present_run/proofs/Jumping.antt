-- How the next jumps go on from step to step.
use Rattle.std.proofs.Common.{◌≡◌, ◌⊎◌, ◌∙◌, ℕ, zero, suc, ◌+◌, ◌-◌, ◌<◌, ◌++◌, Bool, List, [], ◌∷◌, Option, Some, None, inl, inr, refl, sym, ap, arith}
use Rattle.std.proofs.Math.Path.{ap₂}
use Rattle.std.proofs.lemmas.List.{append_assoc}
use Rattle.input_log.specs.Event.{LogEvent}
use Rattle.r3k_image.specs.Boot.{Boot}
use Rattle.r3k_machine.specs.Jumps.{Jumping, in_front, jump_of, jumps_from}
use Rattle.r3k_machine.specs.Traced.{traced_at}
use Rattle.r3k_machine.specs.declared.jumps.Jump.{Jump}

-- jumps in front of later ones
abbrev pub joined : List Jump → Jumping → Jumping
joined first rest = record { jumps = first ++ rest.jumps; next = rest.next }

-- none are left
pub ended : (pages : ℕ) (image : Boot) (log : List LogEvent) (local : Bool) (position count window : ℕ) → (count ≡ 0) ⊎ (window ≡ 0)
    → jumps_from pages image log local position count window ≡ record { jumps = []; next = position }
unfolding jumps_from
ended pages image log local position zero window is = refl
ended pages image log local position (suc count) zero is = refl
ended pages image log local position (suc count) (suc window) (inl is) = absurd (omega (arith, is))
ended pages image log local position (suc count) (suc window) (inr is) = absurd (omega (arith, is))

module _ (pages : ℕ) (image : Boot) (log : List LogEvent) (local : Bool) where
  abbrev from : (position count window : ℕ) → Jumping
  from position count window = jumps_from pages image log local position count window

  -- one step is made
  steps_on : (position count window : ℕ) → 0 < count → 0 < window
      → from position count window ≡ in_front (jump_of local position (traced_at pages image log position)) count (λ more. from (position + 1) more (window - 1))
  unfolding jumps_from
  steps_on position zero window some wide = absurd (omega (arith, some))
  steps_on position (suc count) zero some wide = absurd (omega (arith, wide))
  steps_on position (suc count) (suc window) some wide =
      ap (λ (n : ℕ). in_front (jump_of local position (traced_at pages image log position)) (suc count) (λ more. from (position + 1) more n))
      (let e : window ≡ suc window - 1 = omega arith in e)

  -- it is no jump
  pub passes : (first : List Jump) (position count window : ℕ) → 0 < count → 0 < window → jump_of local position (traced_at pages image log position) ≡ None
      → joined first (from position count window) ≡ joined first (from (position + 1) count (window - 1))
  passes first position count window some wide none =
      ap (joined first) (steps_on position count window some wide
      ∙ ap (λ (o : Option Jump). in_front o count (λ more. from (position + 1) more (window - 1))) none)

  -- it is a jump
  pub lists : (first : List Jump) (position count window : ℕ) (jump : Jump) → 0 < count → 0 < window
      → jump_of local position (traced_at pages image log position) ≡ Some jump
      → joined first (from position count window) ≡ joined (first ++ jump ∷ []) (from (position + 1) (count - 1) (window - 1))
  lists first position count window jump some wide is =
      let rest = from (position + 1) (count - 1) (window - 1) in
      ap (joined first) (steps_on position count window some wide
      ∙ ap (λ (o : Option Jump). in_front o count (λ more. from (position + 1) more (window - 1))) is)
      ∙ ap (λ (jumps : List Jump). record { jumps = jumps; next = rest.next }) (sym (append_assoc first (jump ∷ []) rest.jumps))
