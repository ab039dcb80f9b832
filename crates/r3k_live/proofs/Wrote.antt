-- The last step that wrote a register, from the last steps with each destination.
use Rattle.std.proofs.Common.{◌≡◌, ℕ, zero, suc, ◌+◌, ◌<◌, ◌==◌, ◌&&◌, ◌||◌, ◌⊎◌, Bool, true, false, List, [], ◌∷◌, Option, Some, None, if◌then◌else◌, nat_le, refl, sym, ap, ◌∙◌, arith, max, inl, inr}
use Rattle.std.proofs.Math.Path.{ap₂}
use Rattle.std.proofs.lemmas.Bool.{and_parts, cases_Bool, leb-true}
use Rattle.r3k_machine.specs.declared.step.Done.{Done}
use Rattle.r3k_machine.specs.declared.target.Target.TheVariants.{Register}
use Rattle.r3k_machine.specs.Run.{last_where, last_writer, later, writes}
use Rattle.r3k_live.specs.Kept.{kept_step}

-- tests that give the same find the same step
pub same_test : (p q : Done → Bool) (steps : List Done) → ((done : Done) → p done ≡ q done) → last_where p steps ≡ last_where q steps
same_test p q [] same = refl
same_test p q (done ∷ steps) same =
    ap₂ (λ (o : Option ℕ) (b : Bool). later 1 o (if b then Some 0 else None)) (same_test p q steps same) (same done)

-- a test that fails finds none
none_passes : (steps : List Done) → last_where (λ _. false) steps ≡ None
none_passes [] = refl
none_passes (done ∷ steps) = ap (λ (o : Option ℕ). later 1 o None) (none_passes steps)

outside : (number : ℕ) → (number ≡ 0) ⊎ (33 < number) → (nat_le 1 number && nat_le number 33) ≡ false
outside number other =
    elim (cases_Bool (nat_le 1 number && nat_le number 33)) [
      | inl inside ↦
          let parts = and_parts (nat_le 1 number) (nat_le number 33) inside in
          elim other [
            | inl none ↦ absurd (let e : ⊥ = omega (arith, none, leb-true 1 number parts.0) in e)
            | inr past ↦ absurd (let e : ⊥ = omega (arith, past, leb-true number 33 parts.1) in e)
          ]
      | inr free ↦ free
    ]

pub no_register : (number : ℕ) (steps : List Done) → (number ≡ 0) ⊎ (33 < number) → last_writer (Register number) steps ≡ None
no_register number steps other =
    same_test (writes (Register number)) (λ _. false) steps (λ done. ap (λ (b : Bool). b && (done.wrote == number || (done.wrote == 34 && nat_le 32 number))) (outside number other))
    ∙ none_passes steps

-- how a step is kept, in front of one more
abbrev up : ℕ → Bool → ℕ
up zero true = 1
up zero false = 0
up (suc k) b = suc (suc k)

kept_later : (o : Option ℕ) (b : Bool) → kept_step (later 1 o (if b then Some 0 else None)) ≡ up (kept_step o) b
kept_later None true = refl
kept_later None false = refl
kept_later (Some k) b = let e : 1 + k + 1 ≡ suc (suc k) = omega arith in e ∙ sym (ap (λ (n : ℕ). up n b) (let e : k + 1 ≡ suc k = omega arith in e))

up_both : (x y : ℕ) (p q : Bool) → up (max x y) (p || q) ≡ max (up x p) (up y q)
up_both zero zero true true = let e : 1 ≡ max 1 1 = omega arith in e
up_both zero zero true false = let e : 1 ≡ max 1 0 = omega arith in e
up_both zero zero false true = let e : 1 ≡ max 0 1 = omega arith in e
up_both zero zero false false = let e : 0 ≡ max 0 0 = omega arith in e
up_both zero (suc y) true q = ap (λ (n : ℕ). up n true) (let e : max 0 (suc y) ≡ suc y = omega arith in e) ∙ (let e : suc (suc y) ≡ max 1 (suc (suc y)) = omega arith in e)
up_both zero (suc y) false q = ap (λ (n : ℕ). up n q) (let e : max 0 (suc y) ≡ suc y = omega arith in e) ∙ (let e : suc (suc y) ≡ max 0 (suc (suc y)) = omega arith in e)
up_both (suc x) zero p true = ap (λ (n : ℕ). up n (p || true)) (let e : max (suc x) 0 ≡ suc x = omega arith in e) ∙ (let e : suc (suc x) ≡ max (suc (suc x)) 1 = omega arith in e)
up_both (suc x) zero p false = ap (λ (n : ℕ). up n (p || false)) (let e : max (suc x) 0 ≡ suc x = omega arith in e) ∙ (let e : suc (suc x) ≡ max (suc (suc x)) 0 = omega arith in e)
up_both (suc x) (suc y) p q =
    ap (λ (n : ℕ). up n (p || q)) (let e : max (suc x) (suc y) ≡ suc (max x y) = omega arith in e)
    ∙ (let e : suc (suc (max x y)) ≡ max (suc (suc x)) (suc (suc y)) = omega arith in e)

-- the last step that passes one of two tests
either_test : (p q : Done → Bool) (steps : List Done)
    → kept_step (last_where (λ done. p done || q done) steps) ≡ max (kept_step (last_where p steps)) (kept_step (last_where q steps))
either_test p q [] = refl
either_test p q (done ∷ steps) =
    kept_later (last_where (λ done. p done || q done) steps) (p done || q done)
    ∙ (ap (λ (n : ℕ). up n (p done || q done)) (either_test p q steps)
    ∙ (up_both (kept_step (last_where p steps)) (kept_step (last_where q steps)) (p done) (q done)
    ∙ sym (ap₂ max (kept_later (last_where p steps) (p done)) (kept_later (last_where q steps) (q done)))))

-- the destination of a register alone
or_and_false : (a b : Bool) → (a || (b && false)) ≡ a
or_and_false true b = refl
or_and_false false true = refl
or_and_false false false = refl

pub own_alone : (number : ℕ) (steps : List Done) → (nat_le 1 number && nat_le number 33) ≡ true → nat_le 32 number ≡ false
    → last_writer (Register number) steps ≡ last_where (λ done. done.wrote == number) steps
own_alone number steps inside low =
    same_test (writes (Register number)) (λ done. done.wrote == number) steps
    (λ done. rw (inside, low) (or_and_false (done.wrote == number) (done.wrote == 34)))

-- HI and LO
or_and_true : (a b : Bool) → (a || (b && true)) ≡ (a || b)
or_and_true true b = refl
or_and_true false true = refl
or_and_true false false = refl

pub own_or_both : (number : ℕ) (steps : List Done) → (nat_le 1 number && nat_le number 33) ≡ true → nat_le 32 number ≡ true
    → kept_step (last_writer (Register number) steps)
    ≡ max (kept_step (last_where (λ done. done.wrote == number) steps)) (kept_step (last_where (λ done. done.wrote == 34) steps))
own_or_both number steps inside high =
    ap kept_step (same_test (writes (Register number)) (λ done. done.wrote == number || done.wrote == 34) steps
    (λ done. rw (inside, high) (or_and_true (done.wrote == number) (done.wrote == 34))))
    ∙ either_test (λ done. done.wrote == number) (λ done. done.wrote == 34) steps

-- a kept step is that of one step alone
pub one_kept : (a b : Option ℕ) → kept_step a ≡ kept_step b → a ≡ b
one_kept None None is = refl
one_kept None (Some k) is = absurd (let e : ⊥ = omega (arith, is) in e)
one_kept (Some k) None is = absurd (let e : ⊥ = omega (arith, is) in e)
one_kept (Some j) (Some k) is = ap Some (omega (arith, is))
