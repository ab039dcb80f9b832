-- What looking up a position among states leaves.
use Rattle.std.proofs.Common.{◌≡◌, ℕ, ◌⊎◌, inl, inr, true, false, cond, nat_eq, List, [], ◌∷◌, take, Some, None, Contains, refl, sym, ap, subst, eqb-true, eq-eqb}
use Rattle.std.specs.Map.{lookup_entry, remove_entry}
use Rattle.std.specs.Set.{remove_key}
use Rattle.lru.proofs.Splits.{Contains-head, Contains-tail, Contains-cons, Contains-nil}
use Rattle.lru.proofs.CallerLemmas.{Contains-take}
use Rattle.r3k_machine.specs.State.{State}
use Rattle.present_run.specs.RecentStates.{positions_of, touched}

module _ (position : ℕ) where
  pub found-there : (states : List (ℕ × State)) → Contains (positions_of states) position → (e : ℕ × State) × (lookup_entry (nat_eq position) states ≡ Some e) × (e.0 ≡ position)
  found-there [] c = absurd (Contains-nil position c)
  found-there (f ∷ states) c = (elim (nat_eq position f.0) as (λ y. nat_eq position f.0 ≡ y → (e : ℕ × State) × (cond y (Some f) (lookup_entry (nat_eq position) states) ≡ Some e) × (e.0 ≡ position)) [
    | true ↦ λ same. (f, refl, sym (eqb-true position f.0 same))
    | false ↦ λ apart. elim (Contains-cons f.0 (positions_of states) position c) [
      | inl same ↦ absurd (let h = eq-eqb position f.0 (sym same) in cc)
      | inr d ↦ found-there states d
    ]
  ]) refl

  pub absent-none : (states : List (ℕ × State)) → (Contains (positions_of states) position → ⊥) → lookup_entry (nat_eq position) states ≡ None
  absent-none [] absent = refl
  absent-none (f ∷ states) absent = (elim (nat_eq position f.0) as (λ y. nat_eq position f.0 ≡ y → cond y (Some f) (lookup_entry (nat_eq position) states) ≡ None) [
    | true ↦ λ same. absurd (absent (subst (Contains (f.0 ∷ positions_of states)) (sym (eqb-true position f.0 same)) (Contains-head f.0 (positions_of states))))
    | false ↦ λ apart. absent-none states (λ c. absent (Contains-tail f.0 (positions_of states) position c))
  ]) refl

  removed-positions : (states : List (ℕ × State)) → positions_of (remove_entry (nat_eq position) states) ≡ remove_key (nat_eq position) (positions_of states)
  removed-positions [] = refl
  removed-positions (f ∷ states) = elim (nat_eq position f.0) as (λ y. positions_of (cond y states (f ∷ remove_entry (nat_eq position) states)) ≡ cond y (positions_of states) (f.0 ∷ remove_key (nat_eq position) (positions_of states))) [
    | true ↦ refl
    | false ↦ ap (λ l. f.0 ∷ l) (removed-positions states)
  ]

  pub touched-first : (states : List (ℕ × State)) → Contains (positions_of states) position → positions_of (touched position states) ≡ position ∷ remove_key (nat_eq position) (positions_of states)
  touched-first states c = let on = found-there states c in
      rw on.1 (λ i. on.2 i ∷ removed-positions states i)

  pub touched-absent : (states : List (ℕ × State)) → (Contains (positions_of states) position → ⊥) → touched position states ≡ states
  touched-absent states absent = rw (absent-none states absent) refl

-- what was put in front
pub added-among : (n : ℕ) (e : ℕ × State) (states : List (ℕ × State)) (f : ℕ × State) → Contains (take n (e ∷ states)) f → (f ≡ e) ⊎ Contains states f
added-among n e states f c = elim (Contains-cons e states f (Contains-take n (e ∷ states) f c)) [
  | inl same ↦ inl (sym same)
  | inr d ↦ inr d
]
