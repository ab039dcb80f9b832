use Rattle.std.proofs.Common.{◌≡◌, refl, ℕ, ◌≤◌, ◌<◌, ◌&&◌, true, false, List, nat_le, slice_index, sym, ap, ◌∙◌, arith, inl, inr, max}
use Rattle.std.proofs.Math.Path.{ap₂}
use Rattle.std.proofs.lemmas.Bool.{cases_Bool, le-leb, leb-true}
use Rattle.r3k_live.specs.Kept.{kept_step}
use Rattle.r3k_live.proofs.Wrote.{no_register, one_kept, own_alone, own_or_both}
use Rattle.r3k_live.proofs.destinations.Destinations.writer.Goals as goal

within : (number : ℕ) → 1 ≤ number → number ≤ 33 → (nat_le 1 number && nat_le number 33) ≡ true
within number least most = rw (le-leb 1 number least, le-leb number 33 most) refl

low : (number : ℕ) → number < 32 → nat_le 32 number ≡ false
low number below =
    elim (cases_Bool (nat_le 32 number)) [
      | inl high ↦ absurd (let e : ⊥ = omega (arith, below, leb-true 32 number high) in e)
      | inr free ↦ free
    ]

pub returns-then-register-eq0 : goal.returns-then-register-eq0
returns-then-register-eq0 c = λ steps are.
    sym (no_register c.args.register steps (elim c.then-register-eq0.either [ inl none ↦ inl none | inr past ↦ inr past.1 ]))

pub returns-then-register-lt32 : goal.returns-then-register-lt32
returns-then-register-lt32 c = λ steps are.
    let number = c.args.register in
    one_kept _ _
    (c.step_of.ensures
    ∙ (ap (λ (last : List ℕ). slice_index last number) c.self.view_is
    ∙ (are number (omega (arith, c.if-register-lt32.true))
    ∙ sym (ap kept_step (own_alone number steps (within number (omega (arith, c.if-register-eq0.false)) (omega (arith, c.if-register-lt32.true))) (low number c.if-register-lt32.true))))))

pub returns : goal.returns
returns c = λ steps are.
    let number = c.args.register in
    let view = c.self.view_is in
    one_kept _ _
    (c.step_of-2.ensures
    ∙ (c.max.ensures
    ∙ (ap₂ max (ap (λ (last : List ℕ). slice_index last number) view ∙ are number (omega (arith, c.if-register-gt33.false)))
    (ap (λ (last : List ℕ). slice_index last 34) view ∙ are 34 (omega arith))
    ∙ sym (own_or_both number steps (within number (omega (arith, c.if-register-eq0.false)) (omega (arith, c.if-register-gt33.false))) (le-leb 32 number c.if-register-lt32.false)))))
