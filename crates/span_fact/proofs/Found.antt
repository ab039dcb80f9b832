-- The last writer of a word that is looked up in order.
use Rattle.std.proofs.Common.{◌≡◌, ℕ, ◌*◌, ◌<◌, ◌≤◌, List, Contains, map, length, slice_index_or, Option, Some, None, IsSome, refl, sym, subst, ◌∙◌, arith, inl, inr}
use Rattle.std.specs.List.Sorted.{IsNonDecreasingBy, IsStrictlyIncreasing}
use Rattle.std.proofs.lemmas.Bool.{cases_lt}
use Rattle.std.proofs.lemmas.List.{get_or-map, length-map}
use Rattle.std.proofs.lemmas.Map.Keys.{non_decreasing_from_sorted, sorted_from_strictly_increasing}
use Rattle.r3k_word.specs.declared.layout.TheConstants.{PAGE_WORDS}
use Rattle.r3k_machine.specs.declared.step.Done.{Done}
use Rattle.r3k_machine.specs.declared.target.Target.TheVariants.{Memory}
use Rattle.r3k_machine.specs.Run.{last_writer}
use Rattle.r3k_live.specs.Record.{AreWriters}
use Rattle.r3k_live.specs.declared.recorder.Written.{Written}

-- the word of a place is not among those from its place on, so no step stored into it
pub not_found : (pages : ℕ) (steps : List Done) (writers : List Written) (place at : ℕ) → AreWriters pages steps writers → place < pages * PAGE_WORDS
    → ((k : ℕ) (d : Written) → k < at → (slice_index_or writers k d).place < place)
    → ((k : ℕ) (d : Written) → at ≤ k → k < length writers → ¬ ((slice_index_or writers k d).place ≡ place))
    → None ≡ last_writer (Memory (4 * place)) steps
not_found pages steps writers place at written within below other = none (last_writer (Memory (4 * place)) steps) (written.all place within)
  where
    none : (o : Option ℕ) → (IsSome o → Contains (map (λ w. w.place) writers) place) → None ≡ o
    none None has = refl
    none (Some step) has =
        let found = has refl in
        let k = found.0 in
        let d : Written = record { place = place; step = 0 } in
        let inside : k < length writers = subst (λ (n : ℕ). k < n) (length-map writers (λ (w : Written). w.place)) found.1 in
        let is : (slice_index_or writers k d).place ≡ place = sym (get_or-map (λ (w : Written). w.place) writers k d place inside) ∙ found.2 in
        elim (cases_lt k at) [
          | inl before ↦ absurd (let e : ⊥ = omega (arith, is, below k d before) in e)
          | inr beyond ↦ absurd (other k d beyond inside is)
        ]

-- places that rise do not fall
pub rising : (writers : List Written) → IsStrictlyIncreasing (map (λ w. w.place) writers) → IsNonDecreasingBy (λ w. w.place) writers
rising writers up =
    λ i j d low within.
    let place : Written → ℕ = λ w. w.place in
    let inside : j < length (map place writers) = subst (λ (n : ℕ). j < n) (sym (length-map writers place)) within in
    let ordered = non_decreasing_from_sorted (map place writers) (sorted_from_strictly_increasing (map place writers) up) i j (place d) low inside in
    omega (arith, ordered, get_or-map place writers i d (place d) (omega (arith, low, within)), get_or-map place writers j d (place d) within)
