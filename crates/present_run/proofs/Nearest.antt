-- The greatest position in a range, looked for from the front of a list.
use Rattle.std.proofs.Common.{◌≡◌, ℕ, ◌<◌, ◌≤◌, ◌⊎◌, inl, inr, List, [], ◌∷◌, Option, Some, None, MatchOption, IfSome, Contains, sym, subst, arith, le_refl}
use Rattle.lru.proofs.Splits.{Contains-head, Contains-tail, Contains-cons, Contains-nil}
use Rattle.r3k_machine.specs.State.{State}
use Rattle.present_run.specs.RecentStates.{HasNone, IsNearest, positions_of}

le_or_lt : (a n : ℕ) → (a ≤ n) ⊎ (n < a)
le_or_lt a n = grind arith

-- what is still to come is kept
abbrev IsPart : List (ℕ × State) → List (ℕ × State) → Type 0
IsPart all rest = (e : ℕ × State) → Contains rest e → Contains all e

-- each position in the range is still to come, or P holds of it
abbrev IsSettled : (from to : ℕ) (all rest : List (ℕ × State)) → (ℕ → Type 0) → Type 0
IsSettled from to all rest P = (p : ℕ) → Contains (positions_of all) p → from ≤ p → p ≤ to → Contains (positions_of rest) p ⊎ P p

-- the same states after those of one more entry
module _ (from to : ℕ) (all : List (ℕ × State)) (e : ℕ × State) (rest : List (ℕ × State)) where
  part-tail : IsPart all (e ∷ rest) → IsPart all rest
  part-tail part f c = part f (Contains-tail e rest f c)

  settled-more : (P Q : ℕ → Type 0) → IsSettled from to all (e ∷ rest) P → (from ≤ e.0 → e.0 ≤ to → Q e.0) → ((p : ℕ) → P p → Q p) → IsSettled from to all rest Q
  settled-more P Q settled here keeps p c low high = elim (settled p c low high) [
    | inl d ↦ elim (Contains-cons e.0 (positions_of rest) p d) [
      | inl same ↦ inr (subst Q same (here (subst (λ x. from ≤ x) (sym same) low) (subst (λ x. x ≤ to) (sym same) high)))
      | inr more ↦ inl more
    ]
    | inr h ↦ inr (keeps p h)
  ]

module _ {A : Type 0} (state_of : A → State) (from to : ℕ) (all : List (ℕ × State)) where
  -- what was found among the states so far, where `rest` is still to come
  abbrev pub IsSoFar : List (ℕ × State) → Option (ℕ × A) → Type 0
  IsSoFar rest found = IsPart all rest × MatchOption found
      (IsSettled from to all rest (λ _. ⊥))
      (λ f. Contains all (f.0, state_of f.1) × (from ≤ f.0) × (f.0 ≤ to) × IsSettled from to all rest (λ p. p ≤ f.0))

  pub so_far-start : (rest : List (ℕ × State)) → rest ≡ all → IsSoFar rest None
  so_far-start rest same = (λ e c. subst (λ l. Contains l e) same c, λ p c low high. inl (subst (λ l. Contains (positions_of l) p) (sym same) c))

  pub so_far-outside : (rest next : List (ℕ × State)) (e : ℕ × State) (found : Option (ℕ × A)) → rest ≡ e ∷ next → (from ≤ e.0 → e.0 ≤ to → ⊥) → IsSoFar rest found → IsSoFar next found
  so_far-outside rest next e None is out so = let at = subst (λ l. IsSoFar l None) is so in
      (part-tail from to all e next at.0, settled-more from to all e next (λ _. ⊥) (λ _. ⊥) at.1 out (λ p h. h))
  so_far-outside rest next e (Some f) is out so = let at = subst (λ l. IsSoFar l (Some f)) is so in
      (part-tail from to all e next at.0, (at.1.0, at.1.1, at.1.2, settled-more from to all e next (λ p. p ≤ f.0) (λ p. p ≤ f.0) at.1.3 (λ l h. absurd (out l h)) (λ p h. h)))

  pub so_far-less : (rest next : List (ℕ × State)) (e : ℕ × State) (f : ℕ × A) → rest ≡ e ∷ next → e.0 < f.0 → IsSoFar rest (Some f) → IsSoFar next (Some f)
  so_far-less rest next e f is less so = let at = subst (λ l. IsSoFar l (Some f)) is so in
      (part-tail from to all e next at.0, (at.1.0, at.1.1, at.1.2, settled-more from to all e next (λ p. p ≤ f.0) (λ p. p ≤ f.0) at.1.3 (λ l h. omega (arith, less)) (λ p h. h)))

  pub so_far-found : (rest next : List (ℕ × State)) (e : ℕ × State) (found : Option (ℕ × A)) (a : A) → rest ≡ e ∷ next → state_of a ≡ e.1 → from ≤ e.0 → e.0 ≤ to → IfSome found (λ f. f.0 ≤ e.0)
      → IsSoFar rest found → IsSoFar next (Some (e.0, a))
  so_far-found rest next e None a is same low high greater so = let at = subst (λ l. IsSoFar l None) is so in (
    part-tail from to all e next at.0,
    (
      subst (λ s. Contains all (e.0, s)) (sym same) (at.0 e (Contains-head e next)),
      low,
      high,
      settled-more from to all e next (λ _. ⊥) (λ p. p ≤ e.0) at.1 (λ l h. le_refl e.0) (λ p h. absurd h),
    ),
  )
  so_far-found rest next e (Some f) a is same low high greater so = let at = subst (λ l. IsSoFar l (Some f)) is so in (
    part-tail from to all e next at.0,
    (
      subst (λ s. Contains all (e.0, s)) (sym same) (at.0 e (Contains-head e next)),
      low,
      high,
      settled-more from to all e next (λ p. p ≤ f.0) (λ p. p ≤ e.0) at.1.3 (λ l h. le_refl e.0) (λ p h. omega (arith, greater, h)),
    ),
  )

  settled-end : (P : ℕ → Type 0) → IsSettled from to all [] P → (p : ℕ) → Contains (positions_of all) p → from ≤ p → p ≤ to → P p
  settled-end P settled p c low high = elim (settled p c low high) [
    | inl d ↦ absurd (Contains-nil p d)
    | inr h ↦ h
  ]

  pub so_far-end : (rest : List (ℕ × State)) (found : Option (ℕ × A)) → rest ≡ [] → IsSoFar rest found → MatchOption found (HasNone from to all) (λ f. IsNearest from to all f.0 (state_of f.1))
  so_far-end rest None is so = let at = subst (λ l. IsSoFar l None) is so in
      λ p c low high. settled-end (λ _. ⊥) at.1 p c low high
  so_far-end rest (Some f) is so = let at = subst (λ l. IsSoFar l (Some f)) is so in record {
    there = at.1.0;
    least = at.1.1;
    most = at.1.2;
    greatest = λ p c high. elim (le_or_lt from p) [
      | inl low ↦ settled-end (λ q. q ≤ f.0) at.1.3 p c low high
      | inr low ↦ let least = at.1.1 in omega (arith, low, least)
    ];
  }
