-- What a filter keeps: nothing, all, what stands between two places, what another filter kept, and of events in order
-- of time those at the front.
use Rattle.std.proofs.Common.{◌≡◌, ℕ, zero, suc, ◌+◌, ◌≤◌, Bool, true, false, not, List, [], ◌∷◌, length, get_or, take, drop, ap, sym, arith, refl, ◌&&◌, ◌∙◌, inl, inr}
use Rattle.std.specs.List.{filter, AllWithin, prefix_len}
use Rattle.std.proofs.lemmas.Bool.{cases_Bool, not_from_true, not_from_false}
use Rattle.input_log.specs.Event.{LogEvent}
use Rattle.input_log.specs.Log.{AreInOrder}

-- nothing passes
pub filter-none : {X : Type 0} (p : X → Bool) (xs : List X)
    → AllWithin (λ x. p x ≡ false) xs 0 (length xs) → filter p xs ≡ []
filter-none p [] none = refl
filter-none p (x ∷ xs) none =
    rw (none 0 x (omega arith) (omega arith)) (filter-none p xs (λ k d low high. none (suc k) d (omega arith) (omega arith)))

-- all pass
pub filter-all : {X : Type 0} (p : X → Bool) (xs : List X)
    → AllWithin (λ x. p x ≡ true) xs 0 (length xs) → filter p xs ≡ xs
filter-all p [] here = refl
filter-all p (x ∷ xs) here =
    rw (here 0 x (omega arith) (omega arith))
    (ap (λ rest. x ∷ rest) (filter-all p xs (λ k d low high. here (suc k) d (omega arith) (omega arith))))

-- just the first ones pass
filter-front : {X : Type 0} (p : X → Bool) (xs : List X) (j : ℕ) → j ≤ length xs
    → AllWithin (λ x. p x ≡ true) xs 0 j → AllWithin (λ x. p x ≡ false) xs j (length xs)
    → filter p xs ≡ take j xs
filter-front p xs zero fits here above = filter-none p xs above
filter-front p [] (suc j) fits here above = absurd (omega arith)
filter-front p (x ∷ xs) (suc j) fits here above =
    rw (here 0 x (omega arith) (omega arith))
    (ap (λ rest. x ∷ rest)
    (filter-front p xs j (omega arith) (λ k d low high. here (suc k) d (omega arith) (omega arith))
    (λ k d low high. above (suc k) d (omega arith) (omega arith))))

-- just j of them pass, from i on
pub filter-between : {X : Type 0} (p : X → Bool) (xs : List X) (i j : ℕ) → i + j ≤ length xs
    → AllWithin (λ x. p x ≡ false) xs 0 i → AllWithin (λ x. p x ≡ true) xs i (i + j)
    → AllWithin (λ x. p x ≡ false) xs (i + j) (length xs) → filter p xs ≡ take j (drop i xs)
filter-between p xs zero j fits below here above =
    filter-front p xs j (omega arith) (λ k d low high. here k d low (omega arith)) (λ k d low high. above k d (omega arith) high)
filter-between p [] (suc i) j fits below here above = absurd (omega arith)
filter-between p (x ∷ xs) (suc i) j fits below here above =
    rw (below 0 x (omega arith) (omega arith))
    (filter-between p xs i j (omega arith) (λ k d low high. below (suc k) d (omega arith) (omega arith))
    (λ k d low high. here (suc k) d (omega arith) (omega arith))
    (λ k d low high. above (suc k) d (omega arith) (omega arith)))

-- what passes one test and then another
pub filter-filter : {X : Type 0} (p q r : X → Bool) → ((x : X) → r x ≡ (q x && p x)) → (xs : List X)
    → filter p (filter q xs) ≡ filter r xs
filter-filter p q r both [] = refl
filter-filter p q r both (x ∷ xs) =
    let rest = filter-filter p q r both xs in
    elim (cases_Bool (q x)) [
      | inl passing ↦ elim (cases_Bool (p x)) [
        | inl here ↦ rw (both x, passing, here) (ap (λ ys. x ∷ ys) rest)
        | inr gone ↦ rw (both x, passing, gone) rest
      ]
      | inr failing ↦ rw (both x, failing) rest
    ]

-- once an event doesn't pass, no later one does
abbrev pub Ends : (LogEvent → Bool) → Type 0
Ends p = (x y : LogEvent) → x.time ≤ y.time → p x ≡ false → p y ≡ false

rest_in_order : (x : LogEvent) (xs : List LogEvent) → AreInOrder (x ∷ xs) → AreInOrder xs
rest_in_order x xs order = λ i j d le lt. order (suc i) (suc j) d (omega arith) (omega arith)

-- the events at the front that pass are all that do
pub front : (p : LogEvent → Bool) → Ends p → (xs : List LogEvent) → AreInOrder xs → take (prefix_len p xs) xs ≡ filter p xs
front p ends [] order = refl
front p ends (x ∷ xs) order =
    elim (cases_Bool (p x)) [
      | inl passing ↦
          let e : 1 + prefix_len p xs ≡ suc (prefix_len p xs) = omega arith in
          rw (passing, e) (ap (λ ys. x ∷ ys) (front p ends xs (rest_in_order x xs order)))
      | inr failing ↦
          rw failing (sym (filter-none p xs (λ k d low high. ends x (get_or xs k d) (order 0 (suc k) d (omega arith) (omega arith)) failing)))
    ]

-- and those after them are all that don't
pub back : (p q : LogEvent → Bool) → Ends p → ((x : LogEvent) → q x ≡ not (p x)) → (xs : List LogEvent) → AreInOrder xs → drop (prefix_len p xs) xs ≡ filter q xs
back p q ends other [] order = refl
back p q ends other (x ∷ xs) order =
    elim (cases_Bool (p x)) [
      | inl passing ↦
          let e : 1 + prefix_len p xs ≡ suc (prefix_len p xs) = omega arith in
          let skipped : q x ≡ false = other x ∙ not_from_true (p x) passing in
          rw (passing, e, skipped) (back p q ends other xs (rest_in_order x xs order))
      | inr failing ↦
          let first : q x ≡ true = other x ∙ not_from_false (p x) failing in
          let rest : filter q xs ≡ xs = filter-all q xs (λ k d low high. other (get_or xs k d) ∙ not_from_false (p (get_or xs k d)) (ends x (get_or xs k d) (order 0 (suc k) d (omega arith) (omega arith)) failing)) in
          rw (failing, first) (ap (λ ys. x ∷ ys) (sym rest))
    ]
