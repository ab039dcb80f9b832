-- The last segment that begins at or below an address, as halving finds it.
use Rattle.std.proofs.Common.{◌≡◌, ℕ, zero, suc, ◌-◌, ◌<◌, ◌≤◌, true, false, cond, List, [], ◌∷◌, length, take, get_or, Option, Some, None, unwrap_or, option_map, refl, sym, ap, ◌∙◌, arith, Bor}
use Rattle.std.specs.Prelude.{nat_le, option_copied, MatchOption}
use Rattle.std.specs.List.{slice_get, HoldsAt}
use Rattle.std.specs.List.Sorted.{IsPartitionPoint, IsNonDecreasingBy}
use Rattle.std.proofs.lemmas.Option.{slice_get-get_or, slice_get_past}
use Rattle.r3k_image.specs.declared.segment.Segment.{Segment}
use Rattle.r3k_image.specs.Segments.{view, views, end_of, AreSegments, last_at}
use Rattle.r3k_image.proofs.Placing.{stand}

-- good segments stand in the order of their addresses
all_after : (start : ℕ) (ss : List Segment) (j : ℕ) (d : Segment) → AreSegments start (views ss) → j < length ss → start ≤ (get_or ss j d).address
all_after start [] j d h lt = absurd (omega arith)
all_after start (s ∷ ss) zero d h lt = (stand start s.address (length s.words.items) h.0).after
all_after start (s ∷ ss) (suc j) d h lt =
    let p = stand start s.address (length s.words.items) h.0 in
    let rest = all_after (end_of s.address (length s.words.items)) ss j d h.2 (omega arith) in
    omega (arith, p.after, rest)

pub in_order : (start : ℕ) (ss : List Segment) → AreSegments start (views ss) → IsNonDecreasingBy (λ s. s.address) ss
in_order start [] h i j d le lt = absurd (omega arith)
in_order start (s ∷ ss) h zero zero d le lt = omega arith
in_order start (s ∷ ss) h zero (suc j) d le lt =
    let rest = all_after (end_of s.address (length s.words.items)) ss j d h.2 (omega arith) in
    omega (arith, rest)
in_order start (s ∷ ss) h (suc i) zero d le lt = absurd (omega arith)
in_order start (s ∷ ss) h (suc i) (suc j) d le lt = in_order (end_of s.address (length s.words.items)) ss h.2 i j d (omega arith) (omega arith)

abbrev Below : ℕ → Segment → Type 0
Below q s = nat_le s.address q ≡ true

abbrev Above : ℕ → Segment → Type 0
Above q s = nat_le s.address q ≡ false

-- the last of some items
abbrev last_of : {X : Type 0} → List X → Option X
last_of xs = slice_get xs (length xs - 1)

last_of-cons : (s : Segment) (xs : List Segment) → Some (unwrap_or (option_map view (last_of xs)) (view s)) ≡ option_map view (last_of (s ∷ xs))
last_of-cons s [] = refl
last_of-cons s (x ∷ xs) =
    let n = length xs in
    let one : suc n - 1 ≡ n = omega arith in
    let two : suc (suc n) - 1 ≡ suc n = omega arith in
    let here : slice_get (x ∷ xs) n ≡ Some (get_or (x ∷ xs) n x) = slice_get-get_or (x ∷ xs) n x (omega arith) in
    ap (λ k. Some (unwrap_or (option_map view (slice_get (x ∷ xs) k)) (view s))) one
    ∙ ap (λ o. Some (unwrap_or (option_map view o) (view s))) here
    ∙ sym (ap (λ k. option_map view (slice_get (s ∷ x ∷ xs) k)) two ∙ ap (option_map view) here)

none_below : (q : ℕ) (ss : List Segment) → IsPartitionPoint (Below q) (Above q) ss 0 → last_at q (views ss) ≡ None
none_below q [] h = refl
none_below q (s ∷ ss) h = ap (λ b. cond b (Some (unwrap_or (last_at q (views ss)) (view s))) None) (h.1 0 s (omega arith) (omega arith))

pub last_by_partition : (q : ℕ) (ss : List Segment) (n : ℕ) → n ≤ length ss → IsPartitionPoint (Below q) (Above q) ss n → option_map view (last_of (take n ss)) ≡ last_at q (views ss)
last_by_partition q ss zero le h = sym (none_below q ss h)
last_by_partition q [] (suc n) le h = absurd (omega arith)
last_by_partition q (s ∷ ss) (suc n) le h =
    let rest = last_by_partition q ss n (omega arith) ((λ k d low high. h.0 (suc k) d (omega arith) (omega arith)), (λ k d low high. h.1 (suc k) d (omega arith) (omega arith))) in
    sym (last_of-cons s (take n ss))
    ∙ ap (λ o. Some (unwrap_or o (view s))) rest
    ∙ sym (ap (λ b. cond b (Some (unwrap_or (last_at q (views ss)) (view s))) None) (h.0 0 s (omega arith) (omega arith)))

-- what a borrow shows
pub shown : (o : Option (Bor Segment)) → option_map (λ s. view s.now) o ≡ option_map view (option_copied o)
shown None = refl
shown (Some s) = refl

-- what `get` answers is the item at the place
pub looked_up : (o : Option (Bor ℕ)) (xs : List ℕ) (i : ℕ) → MatchOption o (length xs ≤ i) (λ x. (i < length xs) × HoldsAt {X = ℕ} (λ y. x.now ≡ y) xs i) → option_copied o ≡ slice_get xs i
looked_up None xs i h = sym (slice_get_past xs i h)
looked_up (Some x) xs i h = ap (λ n. Some n) (h.1 x.now) ∙ sym (slice_get-get_or xs i x.now h.0)
