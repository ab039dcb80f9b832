-- Ascending lists, joined.
use Rattle.std.proofs.Common.{◌≡◌, ℕ, ◌+◌, ◌-◌, ◌<◌, ◌≤◌, Bool, true, false, ◌||◌, List, [], ◌∷◌, ◌++◌, length, take, drop, slice_index, refl, sym, ap, ◌∙◌, arith, nat_eq, inl, inr, Result, Ok, Err, is_ok, ◌⊎◌}
use Rattle.std.specs.List.Sorted.{IsBinarySearchResult, IsStrictlyIncreasing}
use Rattle.std.specs.Ordering.{nat_cmp}
use Rattle.std.proofs.Math.Nat.{eq-or-lt_of_le}
use Rattle.std.proofs.Math.ListN.{drop_of_length-le, get_or-append}
use Rattle.std.proofs.Math.Seq.{take-length}
use Rattle.std.proofs.lemmas.List.{append-nil, get_or-append_right, get_or-drop, length-append, length-drop, take-append-drop, take_all}
use Rattle.std.proofs.lemmas.List.Kept.{AllPairs-from_increasing}
use Rattle.std.proofs.lemmas.List.Sorted.{searched}
use Rattle.std.proofs.Math.Bool.{or-false, or-true, or_assoc, or_comm, or_self}
use Rattle.std.proofs.lemmas.Bool.{cases_Bool, eq-eqb, cases_lt}
use Rattle.std.proofs.lemmas.List.Folds.{list_any-append, list_any_at, list_any_more}
use Rattle.r3k_pages.specs.Pages.{holds}
use Rattle.r3k_pages.proofs.Kept.{held_at}
use Rattle.write_index.specs.Pages.{IsUnion}

-- the first pages of both
pub record IsMerged (a b : List ℕ) (i j : ℕ) (pages : List ℕ) : Type 0 where
  pub in_a : i ≤ length a
  pub in_b : j ≤ length b
  pub ascending : IsStrictlyIncreasing pages
  pub under_a : (k : ℕ) → k < length pages → i < length a → slice_index pages k < slice_index a i
  pub under_b : (k : ℕ) → k < length pages → j < length b → slice_index pages k < slice_index b j
  pub union : IsUnion (take i a) (take j b) pages

pub rising : (xs : List ℕ) → IsStrictlyIncreasing xs → (i j : ℕ) → i ≤ j → j < length xs → slice_index xs i ≤ slice_index xs j
rising xs up i j below within =
    elim (eq-or-lt_of_le below) [
      | inl same ↦ let e = ap (slice_index xs) same in omega (arith, e)
      | inr less ↦ let e = AllPairs-from_increasing xs up i j 0 less within in omega (arith, e)
    ]

-- what a search in an ascending list gives
pub searched_for : (xs : List ℕ) (x : ℕ) (r : Result ℕ ℕ) → IsStrictlyIncreasing xs → IsBinarySearchResult (λ y. nat_cmp y x) xs r → is_ok r ≡ holds xs x
searched_for xs x (Ok i) up found = let at = searched xs x (Ok i) found (rising xs up) in sym (list_any_at (λ other. nat_eq other x) xs i 0 at.0 (eq-eqb _ x at.1))
searched_for xs x (Err i) up found =
    let at = searched xs x (Err i) found (rising xs up) in
    elim (cases_Bool (holds xs x)) [
      | inl held ↦
          let there = held_at xs x held in
          absurd (elim (cases_lt there.0 i) [
            | inl before ↦ let e = at.1 there.0 before in omega (arith, e, there.2)
            | inr beyond ↦ let e = at.2 there.0 beyond there.1 in omega (arith, e, there.2)
          ])
      | inr none ↦ sym none
    ]

-- ascending lists
pub ascending_append : (xs ys : List ℕ) → IsStrictlyIncreasing xs → IsStrictlyIncreasing ys
    → ((k : ℕ) → k < length xs → 0 < length ys → slice_index xs k < slice_index ys 0) → IsStrictlyIncreasing (xs ++ ys)
ascending_append xs ys up_xs up_ys under k within =
    elim (cases_lt (k + 1) (length xs)) [
      | inl front ↦
          let e = up_xs k front in
          let here = get_or-append xs ys 0 k (omega (arith, front)) in
          let next = get_or-append xs ys 0 (k + 1) front in
          omega (arith, e, here, next)
      | inr past ↦ elim (cases_lt k (length xs)) [
        | inl last ↦
            let e = under k last (omega (arith, within, length-append xs ys, past, last)) in
            let here = get_or-append xs ys 0 k last in
            let next = get_or-append_right xs ys (length xs) (k + 1) 0 refl past in
            let at = ap (slice_index ys) (let z : k + 1 - length xs ≡ 0 = omega (arith, past, last) in z) in
            omega (arith, e, here, next, at)
        | inr beyond ↦
            let e = up_ys (k - length xs) (omega (arith, within, length-append xs ys, beyond)) in
            let here = get_or-append_right xs ys (length xs) k 0 refl beyond in
            let next = get_or-append_right xs ys (length xs) (k + 1) 0 refl past in
            let at = ap (slice_index ys) (let z : k + 1 - length xs ≡ k - length xs + 1 = omega (arith, beyond) in z) in
            omega (arith, e, here, next, at)
      ]
    ]

pub ascending_drop : (xs : List ℕ) (i : ℕ) → IsStrictlyIncreasing xs → IsStrictlyIncreasing (drop i xs)
ascending_drop xs i up k within =
    let long : i + k + 1 < length xs = omega (arith, within, length-drop i xs) in
    let e = up (i + k) long in
    let here = get_or-drop i xs k 0 in
    let next = get_or-drop i xs (k + 1) 0 in
    let place = ap (slice_index xs) (let e : i + (k + 1) ≡ i + k + 1 = omega arith in e) in
    omega (arith, e, here, next, place)

-- the same with the lists the other way round
swap : (a b : List ℕ) (i j : ℕ) (pages : List ℕ) → IsMerged a b i j pages → IsMerged b a j i pages
swap a b i j pages m = record {
  in_a = m.in_b;
  in_b = m.in_a;
  ascending = m.ascending;
  under_a = m.under_b;
  under_b = m.under_a;
  union = λ page. m.union page ∙ or_comm (holds (take i a) page) (holds (take j b) page);
}

-- the three tests in other orders
or_last : (a b x : Bool) → ((a || b) || x) ≡ ((a || x) || b)
or_last a b x = or_assoc a b x ∙ (ap (λ (y : Bool). a || y) (or_comm b x) ∙ sym (or_assoc a x b))

or_both : (a b x : Bool) → ((a || b) || x) ≡ ((a || x) || (b || x))
or_both true b x = refl
or_both false true x = sym (or-true x)
or_both false false x = sym (or_self x)

-- pages after those so far
more : (pages rest : List ℕ) (page : ℕ) (a b : Bool) → holds pages page ≡ (a || b) → holds (pages ++ rest) page ≡ ((a || b) || holds rest page)
more pages rest page a b is = list_any-append (λ other. nat_eq other page) pages rest ∙ ap (λ (x : Bool). x || holds rest page) is

-- the rest of the longer one
merged_rest : (a b : List ℕ) (i j : ℕ) (pages : List ℕ) → IsMerged a b i j pages → IsStrictlyIncreasing a → length b ≤ j
    → IsStrictlyIncreasing (pages ++ drop i a) × IsUnion a b (pages ++ drop i a)
merged_rest a b i j pages so_far up past = (
  ascending_append pages (drop i a) so_far.ascending (ascending_drop a i up)
      (λ k front some.
      let e = so_far.under_a k front (omega (arith, some, length-drop i a)) in let first = get_or-drop i a 0 0 in let at = ap (slice_index a) (let z : i + 0 ≡ i = omega arith in z) in omega (arith, e, first, at)),
  λ page.
      let all = list_any-append (λ other. nat_eq other page) (take i a) (drop i a) in
      let whole = ap (λ (xs : List ℕ). holds xs page) (take-append-drop i a) in
      let other = ap (λ (xs : List ℕ). holds xs page) (take_all j b past) in
      more pages (drop i a) page (holds (take i a) page) (holds (take j b) page) (so_far.union page)
      ∙ (or_last (holds (take i a) page) (holds (take j b) page) (holds (drop i a) page)
      ∙ (ap (λ (x : Bool). x || holds (take j b) page) (sym all ∙ whole) ∙ ap (λ (x : Bool). holds a page || x) other)),
)

taken_all : (xs : List ℕ) (i : ℕ) → take (length xs - i) (drop i xs) ≡ drop i xs
taken_all xs i = ap (λ (n : ℕ). take n (drop i xs)) (sym (length-drop i xs)) ∙ take-length (drop i xs)

-- the rest of both, of which one is empty
pub merged_all : (a b : List ℕ) (i j : ℕ) (pages one two : List ℕ) → IsMerged a b i j pages → IsStrictlyIncreasing a → IsStrictlyIncreasing b
    → (length a ≤ i) ⊎ (length b ≤ j) → one ≡ pages ++ take (length a - i) (drop i a) → two ≡ one ++ take (length b - j) (drop j b)
    → IsStrictlyIncreasing two × IsUnion a b two
merged_all a b i j pages one two so_far up_a up_b (inl past) is_one is_two =
    let rest = merged_rest b a j i pages (swap a b i j pages so_far) up_b past in
    rw (is_two, is_one, taken_all a i, taken_all b j, drop_of_length-le a past, append-nil pages)
    (rest.0, λ page. rest.1 page ∙ or_comm (holds b page) (holds a page))
merged_all a b i j pages one two so_far up_a up_b (inr past) is_one is_two =
    rw (is_two, is_one, taken_all a i, taken_all b j, drop_of_length-le b past, append-nil (pages ++ drop i a)) (merged_rest a b i j pages so_far up_a past)

take_holds : (xs : List ℕ) (i page z : ℕ) → i < length xs → slice_index xs i ≡ z → holds (take (i + 1) xs) page ≡ (holds (take i xs) page || holds (z ∷ []) page)
take_holds xs i page z within is = rw (list_any_more (λ other. nat_eq other page) xs i 0 within, is, or-false (nat_eq z page)) refl

under_push : (pages : List ℕ) (z bound : ℕ) → ((k : ℕ) → k < length pages → slice_index pages k < z) → z < bound
    → (k : ℕ) → k < length (pages ++ z ∷ []) → slice_index (pages ++ z ∷ []) k < bound
under_push pages z bound under less k within =
    elim (cases_lt k (length pages)) [
      | inl front ↦ let e = under k front in let here = get_or-append pages (z ∷ []) 0 k front in omega (arith, e, here, less)
      | inr beyond ↦
          let here = get_or-append_right pages (z ∷ []) (length pages) k 0 refl beyond in
          let at = ap (slice_index (z ∷ [])) (let e : k - length pages ≡ 0 = omega (arith, within, length-append pages (z ∷ []), beyond) in e) in
          omega (arith, here, at, less)
    ]

-- one page more
merged_push : (a b : List ℕ) (i j i' j' z : ℕ) (pages : List ℕ) → IsMerged a b i j pages → i' ≤ length a → j' ≤ length b
    → ((k : ℕ) → k < length pages → slice_index pages k < z) → (i' < length a → z < slice_index a i') → (j' < length b → z < slice_index b j')
    → ((page : ℕ) → ((holds (take i a) page || holds (take j b) page) || holds (z ∷ []) page) ≡ (holds (take i' a) page || holds (take j' b) page))
    → IsMerged a b i' j' (pages ++ z ∷ [])
merged_push a b i j i' j' z pages so_far in_a in_b under next_a next_b union = record {
  in_a = in_a;
  in_b = in_b;
  ascending = ascending_append pages (z ∷ []) so_far.ascending (λ k within. absurd (omega (arith, within))) (λ k within some. under k within);
  under_a = λ k within inside. under_push pages z (slice_index a i') under (next_a inside) k within;
  under_b = λ k within inside. under_push pages z (slice_index b j') under (next_b inside) k within;
  union = λ page. more pages (z ∷ []) page (holds (take i a) page) (holds (take j b) page) (so_far.union page) ∙ union page;
}

pub merged_a : (a b : List ℕ) (i j z : ℕ) (pages : List ℕ) → IsMerged a b i j pages → IsStrictlyIncreasing a → i < length a → j < length b
    → slice_index a i ≡ z → z < slice_index b j → IsMerged a b (i + 1) j (pages ++ z ∷ [])
merged_a a b i j z pages so_far up within_a within_b is less =
    merged_push a b i j (i + 1) j z pages so_far (omega (arith, within_a)) so_far.in_b
    (λ k front. let e = so_far.under_a k front within_a in omega (arith, e, is)) (λ inside. let e = up i inside in omega (arith, e, is)) (λ inside. less)
    (λ page. or_last (holds (take i a) page) (holds (take j b) page) (holds (z ∷ []) page) ∙ ap (λ (x : Bool). x || holds (take j b) page) (sym (take_holds a i page z within_a is)))

pub merged_b : (a b : List ℕ) (i j z : ℕ) (pages : List ℕ) → IsMerged a b i j pages → IsStrictlyIncreasing b → i < length a → j < length b
    → slice_index b j ≡ z → z < slice_index a i → IsMerged a b i (j + 1) (pages ++ z ∷ [])
merged_b a b i j z pages so_far up within_a within_b is less =
    swap b a (j + 1) i _ (merged_a b a j i z pages (swap a b i j pages so_far) up within_b within_a is less)

pub merged_both : (a b : List ℕ) (i j z : ℕ) (pages : List ℕ) → IsMerged a b i j pages → IsStrictlyIncreasing a → IsStrictlyIncreasing b
    → i < length a → j < length b → slice_index a i ≡ z → slice_index b j ≡ z → IsMerged a b (i + 1) (j + 1) (pages ++ z ∷ [])
merged_both a b i j z pages so_far up_a up_b within_a within_b is_a is_b =
    merged_push a b i j (i + 1) (j + 1) z pages so_far (omega (arith, within_a)) (omega (arith, within_b))
    (λ k front. let e = so_far.under_a k front within_a in omega (arith, e, is_a)) (λ inside. let e = up_a i inside in omega (arith, e, is_a))
    (λ inside. let e = up_b j inside in omega (arith, e, is_b))
    (λ page.
    or_both (holds (take i a) page) (holds (take j b) page) (holds (z ∷ []) page)
    ∙ (ap (λ (x : Bool). x || (holds (take j b) page || holds (z ∷ []) page)) (sym (take_holds a i page z within_a is_a))
    ∙ ap (λ (x : Bool). holds (take (i + 1) a) page || x) (sym (take_holds b j page z within_b is_b))))
