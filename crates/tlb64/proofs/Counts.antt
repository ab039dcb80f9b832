-- How many elements of a list pass a test, by where they stand.
use Rattle.std.proofs.Common.{◌≡◌, ℕ, zero, suc, ◌+◌, ◌<◌, ◌≤◌, Bool, true, false, cond}
use Rattle.std.proofs.Common.{List, [], ◌∷◌, length, get_or, refl, ap, ◌∙◌, arith}
use Rattle.std.specs.List.{count_by}
use Rattle.std.proofs.lemmas.List.Sums.{sum_by-cons}

-- no element from one place up to another passes
abbrev pub NonePasses : {X : Type 0} → (X → Bool) → X → List X → ℕ → ℕ → Type 0
NonePasses p d xs low high = (k : ℕ) → low ≤ k → k < high → p (get_or xs k d) ≡ false

-- a count by its first element
first-yes : {X : Type 0} (p : X → Bool) (x : X) (xs : List X) → p x ≡ true
    → count_by p (x ∷ xs) ≡ 1 + count_by p xs
first-yes p x xs h =
    sum_by-cons (λ x. cond (p x) 1 0) x xs ∙ ap (λ b. cond b 1 0 + count_by p xs) h

first-no : {X : Type 0} (p : X → Bool) (x : X) (xs : List X) → p x ≡ false
    → count_by p (x ∷ xs) ≡ count_by p xs
first-no p x xs h =
    let zero_more : count_by p (x ∷ xs) ≡ 0 + count_by p xs =
    sum_by-cons (λ x. cond (p x) 1 0) x xs ∙ ap (λ b. cond b 1 0 + count_by p xs) h in
    omega arith

-- the first element counts 0 or more
first-more : {X : Type 0} (p : X → Bool) (x : X) (xs : List X)
    → count_by p xs ≤ count_by p (x ∷ xs)
first-more p x xs = omega (arith, sum_by-cons (λ x. cond (p x) 1 0) x xs)

none-pass : {X : Type 0} (p : X → Bool) (d : X) (xs : List X) → NonePasses p d xs 0 (length xs)
    → count_by p xs ≡ 0
none-pass p d [] none = refl
none-pass p d (x ∷ xs) none =
    let rest = none-pass p d xs (λ k low high. none (suc k) (omega arith) (omega arith)) in
    omega (arith, first-no p x xs (none 0 (omega arith) (omega arith)), rest)

pub one-passes : {X : Type 0} (p : X → Bool) (d : X) (xs : List X) (i : ℕ) → i < length xs
    → p (get_or xs i d) ≡ true → NonePasses p d xs 0 i → NonePasses p d xs (i + 1) (length xs)
    → count_by p xs ≡ 1
one-passes p d [] i within here before after = absurd (omega arith)
one-passes p d (x ∷ xs) zero within here before after =
    let rest = none-pass p d xs (λ k low high. after (suc k) (omega arith) (omega arith)) in
    omega (arith, first-yes p x xs here, rest)
one-passes p d (x ∷ xs) (suc i) within here before after =
    let rest = one-passes p d xs i (omega arith) here
    (λ k low high. before (suc k) (omega arith) (omega arith))
    (λ k low high. after (suc k) (omega arith) (omega arith)) in
    omega (arith, first-no p x xs (before 0 (omega arith) (omega arith)), rest)

some-pass : {X : Type 0} (p : X → Bool) (d : X) (xs : List X) (i : ℕ) → i < length xs
    → p (get_or xs i d) ≡ true → 0 < count_by p xs
some-pass p d [] i within here = absurd (omega arith)
some-pass p d (x ∷ xs) zero within here = omega (arith, first-yes p x xs here)
some-pass p d (x ∷ xs) (suc i) within here =
    omega (arith, first-more p x xs, some-pass p d xs i (omega arith) here)

pub two-pass : {X : Type 0} (p : X → Bool) (d : X) (xs : List X) (i j : ℕ) → i < j → j < length xs
    → p (get_or xs i d) ≡ true → p (get_or xs j d) ≡ true → 1 < count_by p xs
two-pass p d [] i j order within here there = absurd (omega arith)
two-pass p d (x ∷ xs) i zero order within here there = absurd (omega arith)
two-pass p d (x ∷ xs) zero (suc j) order within here there =
    omega (arith, first-yes p x xs here, some-pass p d xs j (omega arith) there)
two-pass p d (x ∷ xs) (suc i) (suc j) order within here there =
    omega (arith, first-more p x xs, two-pass p d xs i j (omega arith) (omega arith) here there)
