-- The rows of records, after one of them changes.
use Rattle.std.proofs.Common.{◌≡◌, ◌⊎◌, inl, inr, ℕ, zero, suc, ◌+◌, ◌-◌, ◌<◌, ◌≤◌, List, max, map, [], ◌∷◌, ◌++◌, length, take, drop, Contains, Option, Some, None, IfSome, IsOk, IsSome, IsSomeAnd, Result, Err, slice_get, slice_index_or, slice_set, refl, sym, ap, subst, ◌∙◌, arith}
use Rattle.std.specs.List.{remove}
use Rattle.std.specs.Option.{option_map, option_map_or}
use Rattle.std.proofs.lemmas.Bool.{cases_eq, false≢true}
use Rattle.std.proofs.lemmas.List.{length-map, get_or-set_same, get_or-set_other, map-set, map-append, take-map, drop-map, take-append-drop, length-append, length-drop, length-take, length-set}
use Rattle.std.proofs.lemmas.List.Elements.{Contains-append_cases, Contains-append_left, Contains-append_right}
use Rattle.std.proofs.lemmas.Option.{slice_get_within, slice_get-get_or, IfSome_then, slice_get-map}
use Rattle.std.proofs.lemmas.List.Edits.{length-remove}
use Rattle.r3k_machine.specs.State.{State}
use Rattle.span_fact.specs.Span.{Span, end_of}
use Rattle.checkpoints.specs.Kept.{Follows, first_at, promoted, row_at}
use Rattle.checkpoints.specs.Rows.{AreRows, IsOwnName, IsRoom, Places, Linked, ends_of, records_of, rows_of, spans_of, with_next}

-- what is in a list
pub in_cons : {A : Type 0} (x : A) (xs : List A) (r : A) → Contains (x ∷ xs) r → (x ≡ r) ⊎ Contains xs r
in_cons x xs r (zero, within, at) = inl at
in_cons x xs r (suc k, within, at) = inr (k, omega (arith, within), at)

pub in_rest : {A : Type 0} (x : A) (xs : List A) (r : A) → Contains xs r → Contains (x ∷ xs) r
in_rest x xs r there = let less = there.1 in (suc there.0, omega (arith, less), there.2)

pub got : {A : Type 0} (xs : List A) (k : ℕ) (r : A) → slice_get xs k ≡ Some r → Contains xs r
got [] k r is = absurd (let e : ⊥ = cc in e)
got (x ∷ xs) zero r is = (0, omega arith, let e : x ≡ r = cc in e)
got (x ∷ xs) (suc k) r is = in_rest x xs r (got xs k r is)

in_take : {A : Type 0} (n : ℕ) (xs : List A) (r : A) → Contains (take n xs) r → Contains xs r
in_take n xs r there = subst (λ l. Contains l r) (take-append-drop n xs) (Contains-append_left (take n xs) (drop n xs) r there)

in_drop : {A : Type 0} (n : ℕ) (xs : List A) (r : A) → Contains (drop n xs) r → Contains xs r
in_drop n xs r there = subst (λ l. Contains l r) (take-append-drop n xs) (Contains-append_right (take n xs) (drop n xs) r there)

in_removed : {A : Type 0} (xs : List A) (k : ℕ) (r : A) → Contains (remove xs k) r → Contains xs r
in_removed xs k r there =
    elim (Contains-append_cases (take k xs) (drop (suc k) xs) r there) [
      | inl left ↦ in_take k xs r left
      | inr right ↦ in_drop (suc k) xs r right
    ]

pub in_promoted : {A : Type 0} (place : ℕ) (xs : List A) (r : A) → Contains (promoted place xs) r → Contains xs r
in_promoted {A} place xs r there = by_cases (slice_get xs place) refl there
  where
    by_cases : (o : Option A) → slice_get xs place ≡ o → Contains (option_map_or (λ s. s ∷ remove xs place) o xs) r → Contains xs r
    by_cases None is there = there
    by_cases (Some s) is there =
        elim (in_cons s (remove xs place) r there) [
          | inl same ↦ got xs place r (is ∙ ap (λ s. Some s) same)
          | inr rest ↦ in_removed xs place r rest
        ]

-- the rows that are seen are those of the records
pub row_of : (places : List Places) (i : ℕ) → row_at (rows_of places) i ≡ spans_of (row_at (records_of places) i)
row_of [] i = refl
row_of (p ∷ places) zero = refl
row_of (p ∷ places) (suc i) = row_of places i

pub span_at : (places : List Places) (i k : ℕ) → slice_get (row_at (rows_of places) i) k ≡ option_map (λ r. r.span) (slice_get (row_at (records_of places) i) k)
span_at places i k = ap (λ (row : List Span). slice_get row k) (row_of places i) ∙ slice_get-map (λ (r : Linked). r.span) (row_at (records_of places) i) k

-- a row by its number
pub row_is : (places : List Places) (i : ℕ) (p : Places) → slice_get places i ≡ Some p → row_at (records_of places) i ≡ p.records
row_is [] i p is = absurd (let e : ⊥ = cc in e)
row_is (q ∷ places) zero p is = ap (λ (p : Places). p.records) (let e : q ≡ p = cc in e)
row_is (q ∷ places) (suc i) p is = row_is places i p is

-- one row is changed
pub row_set : (places : List Places) (index : ℕ) (p : Places) → index < length places → row_at (records_of (slice_set places index p)) index ≡ p.records
row_set places index p within =
    ap (λ rows. row_at rows index) (map-set (λ (p : Places). p.records) places index p)
    ∙ get_or-set_same (records_of places) index p.records [] (let e : index < length (records_of places) = subst (λ n. index < n) (sym (length-map places (λ (p : Places). p.records))) within in e)

pub row_other : (places : List Places) (index i : ℕ) (p : Places) → ¬ (i ≡ index) → row_at (records_of (slice_set places index p)) i ≡ row_at (records_of places) i
row_other places index i p other =
    ap (λ rows. row_at rows i) (map-set (λ (p : Places). p.records) places index p) ∙ get_or-set_other (records_of places) index i p.records [] other

-- what a list gives at an index
pub item : {A : Type 0} (xs : List A) (i : ℕ) (x : A) → i < length xs → x ≡ slice_index_or xs i x → slice_get xs i ≡ Some x
item xs i x within is = slice_get-get_or xs i x within ∙ ap (λ x. Some x) (sym is)

-- what holds of what is there
pub some_is : {A : Type 0} (o : Option A) (x : A) (P : A → Type 0) → o ≡ Some x → IfSome o P → P x
some_is o x P is holds = subst (λ o. IfSome o P) is holds

-- the record that is named next follows
pub leads : (pages span : ℕ) (places : List Places) (valid most names index place : ℕ) (r : Linked) (name : ℕ) → AreRows pages span (records_of places) valid most names
    → slice_get (row_at (records_of places) index) 0 ≡ Some r → r.next ≡ Some name
    → IsSomeAnd (slice_get (row_at (records_of places) (index + 1)) place) (λ n. n.name ≡ name)
    → Follows pages span (first_at (rows_of places) index) (slice_get (row_at (rows_of places) (index + 1)) place)
leads pages span places valid most names index place r name rows there next named =
    subst (λ (o : Option Span). Follows pages span o (slice_get (row_at (rows_of places) (index + 1)) place))
    (sym (span_at places index 0 ∙ ap (option_map (λ r. r.span)) there))
    (subst (λ (o : Option Span). Follows pages span (Some r.span) o) (sym (span_at places (index + 1) place))
    (by_cases (slice_get (row_at (records_of places) (index + 1)) place) refl named))
  where
    by_cases : (o : Option Linked) → slice_get (row_at (records_of places) (index + 1)) place ≡ o → IsSomeAnd o (λ n. n.name ≡ name)
        → Follows pages span (Some r.span) (option_map (λ r. r.span) o)
    by_cases None is named = absurd named
    by_cases (Some n) is named =
        rows.follow index r (got (row_at (records_of places) index) 0 r there) n (got (row_at (records_of places) (index + 1)) place n is) (next ∙ ap (λ (n : ℕ). Some n) (sym named))

-- rows of which none has a record more
pub fewer_kept : (pages span : ℕ) (old new : List (List Linked)) (valid most names : ℕ) → AreRows pages span old valid most names
    → ((i : ℕ) (r : Linked) → Contains (row_at new i) r → Contains (row_at old i) r) → ((i : ℕ) → length (row_at new i) ≡ length (row_at old i))
    → AreRows pages span new valid most names
fewer_kept pages span old new valid most names rows within long = record {
  some = rows.some;
  numbers = λ i r there. rows.numbers i r (within i r there);
  joined = λ i below. let some = rows.joined i below in let same = long i in omega (arith, some, same);
  few = λ i. let few = rows.few i in let same = long i in omega (arith, few, same);
  fresh = λ i r there. rows.fresh i r (within i r there);
  follow = λ i r there n next. rows.follow i r (within i r there) n (within (i + 1) n next);
}

-- a record is used
pub length_promoted : {A : Type 0} (place : ℕ) (xs : List A) → place < length xs → length (promoted place xs) ≡ length xs
length_promoted {A} place xs within = by_cases (slice_get xs place)
  where
    by_cases : (o : Option A) → length (option_map_or (λ s. s ∷ remove xs place) o xs) ≡ length xs
    by_cases None = refl
    by_cases (Some s) = let long = length-remove xs place within in omega (arith, long)

-- a record is put
pub length_put : {A : Type 0} (x : A) (most : ℕ) (xs : List A) → 0 < most → length (x ∷ take (most - 1) xs) ≤ most
length_put x most xs some = omega (arith, length-take (most - 1) xs, some)

pub put_kept : (pages span : ℕ) (old new : List (List Linked)) (valid most names later index : ℕ) (r : Linked) → AreRows pages span old valid most names
    → row_at new index ≡ r ∷ take (most - 1) (row_at old index) → ((i : ℕ) → ¬ (i ≡ index) → row_at new i ≡ row_at old i)
    → r.span.index ≡ index → r.name ≡ names → r.next ≡ None → names ≤ later → AreRows pages span new valid most later
put_kept pages span old new valid most names later index r rows here others number name none more = record {
  some = rows.some;
  numbers = λ i n there. elim (from i n there) [
    | inl is ↦ ap (λ (n : Linked). n.span.index) (sym is.1) ∙ (number ∙ sym is.0)
    | inr kept ↦ rows.numbers i n kept
  ];
  joined = λ i below. elim (cases_eq i index) [
    | inl is ↦ subst (λ (row : List Linked). 0 < length row) (sym (ap (row_at new) is ∙ here)) (omega arith)
    | inr other ↦ subst (λ (row : List Linked). 0 < length row) (sym (others i other)) (rows.joined i below)
  ];
  few = λ i. elim (cases_eq i index) [
    | inl is ↦ subst (λ (row : List Linked). length row ≤ most) (sym (ap (row_at new) is ∙ here)) (length_put r most (row_at old index) rows.some)
    | inr other ↦ subst (λ (row : List Linked). length row ≤ most) (sym (others i other)) (rows.few i)
  ];
  fresh = λ i n there. elim (from i n there) [
    | inl is ↦ subst (λ (n : Linked). IfSome n.next (λ name. name < later)) is.1 (subst (λ (o : Option ℕ). IfSome o (λ name. name < later)) (sym none) tt)
    | inr kept ↦ IfSome_then n.next (rows.fresh i n kept) (λ name less. omega (arith, less, more))
  ];
  follow = λ i n there next after named. elim (from i n there) [
    | inl is ↦ absurd (let e : ⊥ = cc (ap (λ (n : Linked). n.next) is.1, none, named) in e)
    | inr kept ↦ elim (from (i + 1) next after) [
      | inl is ↦ absurd (let less : next.name < names = some_is n.next next.name (λ name. name < names) named (rows.fresh i n kept) in
          omega (arith, less, ap (λ (n : Linked). n.name) is.1, name))
      | inr later_kept ↦ rows.follow i n kept next later_kept named
    ]
  ];
}
  where
    from : (i : ℕ) (n : Linked) → Contains (row_at new i) n → ((i ≡ index) × (r ≡ n)) ⊎ Contains (row_at old i) n
    from i n there = elim (cases_eq i index) [
      | inl is ↦ elim (in_cons r (take (most - 1) (row_at old index)) n (subst (λ (row : List Linked). Contains row n) (ap (row_at new) is ∙ here) there)) [
        | inl same ↦ inl (is, same)
        | inr rest ↦ inr (subst (λ (j : ℕ). Contains (row_at old j) n) (sym is) (in_take (most - 1) (row_at old index) n rest))
      ]
      | inr other ↦ inr (subst (λ (row : List Linked). Contains row n) (others i other) there)
    ]

-- what the first record leads to is noted
in_noted : (name : ℕ) (xs : List Linked) (n : Linked) → Contains (with_next name xs) n
    → ((r : Linked) × (slice_get xs 0 ≡ Some r) × (record r { next = Some name } ≡ n)) ⊎ Contains xs n
in_noted name [] n there = inr there
in_noted name (r ∷ xs) n there =
    elim (in_cons (record r { next = Some name }) xs n there) [
      | inl is ↦ inl (r, refl, is)
      | inr rest ↦ inr (in_rest r xs n rest)
    ]

pub length_noted : (name : ℕ) (xs : List Linked) → length (with_next name xs) ≡ length xs
length_noted name [] = refl
length_noted name (r ∷ xs) = refl

pub spans_noted : (name : ℕ) (xs : List Linked) → spans_of (with_next name xs) ≡ spans_of xs
spans_noted name [] = refl
spans_noted name (r ∷ xs) = refl

pub tie_kept : (pages span : ℕ) (old new : List (List Linked)) (valid most names index name : ℕ) → AreRows pages span old valid most names
    → row_at new index ≡ with_next name (row_at old index) → ((i : ℕ) → ¬ (i ≡ index) → row_at new i ≡ row_at old i)
    → name < names → IsOwnName (row_at old (index + 1)) name
    → ((a b : Linked) → slice_get (row_at old index) 0 ≡ Some a → slice_get (row_at old (index + 1)) 0 ≡ Some b → b.span.start ≡ end_of pages span a.span)
    → AreRows pages span new valid most names
tie_kept pages span old new valid most names index name rows here others less own follows = record {
  some = rows.some;
  numbers = λ i n there. elim (from i n there) [
    | inl is ↦ ap (λ (n : Linked). n.span.index) (sym is.1.2) ∙ (rows.numbers index is.1.0 (got (row_at old index) 0 is.1.0 is.1.1) ∙ sym is.0)
    | inr kept ↦ rows.numbers i n kept
  ];
  joined = λ i below. let some = rows.joined i below in let same = long i in omega (arith, some, same);
  few = λ i. let few = rows.few i in let same = long i in omega (arith, few, same);
  fresh = λ i n there. elim (from i n there) [
    | inl is ↦ subst (λ (n : Linked). IfSome n.next (λ name. name < names)) is.1.2 less
    | inr kept ↦ rows.fresh i n kept
  ];
  follow = λ i n there next after named.
      let next_kept : (m : Linked) × Contains (row_at old (i + 1)) m × (m.name ≡ next.name) × (m.span ≡ next.span) = was (i + 1) next after in
      elim (from i n there) [
        | inl is ↦
            let r = is.1.0 in
            let m = next_kept.0 in
            let mine : name ≡ next.name = (let e : Some name ≡ Some next.name = (ap (λ (n : Linked). n.next) is.1.2 ∙ named) in cc) in
            let first : slice_get (row_at old (index + 1)) 0 ≡ Some m =
            own m (subst (λ (j : ℕ). Contains (row_at old (j + 1)) m) is.0 next_kept.1) (next_kept.2 ∙ sym mine) in
            ap (λ (s : Span). s.start) (sym next_kept.3) ∙ (follows r m is.1.1 first ∙ ap (λ (n : Linked). end_of pages span n.span) is.1.2)
        | inr kept ↦
            ap (λ (s : Span). s.start) (sym next_kept.3) ∙ rows.follow i n kept next_kept.0 next_kept.1 (named ∙ ap (λ (k : ℕ). Some k) (sym next_kept.2))
      ];
}
  where
    from : (i : ℕ) (n : Linked) → Contains (row_at new i) n
        → ((i ≡ index) × ((r : Linked) × (slice_get (row_at old index) 0 ≡ Some r) × (record r { next = Some name } ≡ n))) ⊎ Contains (row_at old i) n
    from i n there = elim (cases_eq i index) [
      | inl is ↦ elim (in_noted name (row_at old index) n (subst (λ (row : List Linked). Contains row n) (ap (row_at new) is ∙ here) there)) [
        | inl first ↦ inl (is, first)
        | inr rest ↦ inr (subst (λ (j : ℕ). Contains (row_at old j) n) (sym is) rest)
      ]
      | inr other ↦ inr (subst (λ (row : List Linked). Contains row n) (others i other) there)
    ]

    was : (i : ℕ) (n : Linked) → Contains (row_at new i) n → (m : Linked) × Contains (row_at old i) m × (m.name ≡ n.name) × (m.span ≡ n.span)
    was i n there = elim (from i n there) [
      | inl is ↦ (is.1.0, subst (λ (j : ℕ). Contains (row_at old j) is.1.0) (sym is.0) (got (row_at old index) 0 is.1.0 is.1.1), ap (λ (n : Linked). n.name) is.1.2, ap (λ (n : Linked). n.span) is.1.2)
      | inr kept ↦ (n, kept, refl, refl)
    ]

    long : (i : ℕ) → length (row_at new i) ≡ length (row_at old i)
    long i = elim (cases_eq i index) [
      | inl is ↦ ap (λ (row : List Linked). length row) (ap (row_at new) is ∙ here) ∙ (length_noted name (row_at old index) ∙ ap (λ (j : ℕ). length (row_at old j)) (sym is))
      | inr other ↦ ap (λ (row : List Linked). length row) (others i other)
    ]

-- a row whose first record is there
pub first_there : (places : List Places) (index : ℕ) → IsSome (first_at (rows_of places) index) → 0 < length (row_at (records_of places) index)
first_there places index some =
    by_cases (row_at (records_of places) index) (subst (λ (o : Option Span). IsSome o) (span_at places index 0) some)
  where
    by_cases : (row : List Linked) → IsSome (option_map (λ (r : Linked). r.span) (slice_get row 0)) → 0 < length row
    by_cases [] some = absurd (let e : ⊥ = cc in e)
    by_cases (r ∷ row) some = omega arith

-- a list after one item was set
pub set_same : {A : Type 0} (xs : List A) (i : ℕ) (x : A) → i < length xs → slice_get (slice_set xs i x) i ≡ Some x
set_same xs i x within =
    slice_get-get_or (slice_set xs i x) i x (omega (arith, within, length-set xs i x)) ∙ ap (λ x. Some x) (get_or-set_same xs i x x within)

pub set_other : {A : Type 0} (xs : List A) (i j : ℕ) (x : A) → ¬ (j ≡ i) → slice_get (slice_set xs i x) j ≡ slice_get xs j
set_other [] i j x other = refl
set_other (y ∷ xs) zero zero x other = absurd (other refl)
set_other (y ∷ xs) zero (suc j) x other = refl
set_other (y ∷ xs) (suc i) zero x other = refl
set_other (y ∷ xs) (suc i) (suc j) x other = set_other xs i j x (λ same. other (ap (λ n. suc n) same))

-- room stays where a row is as long as before
pub room_kept : (places : List Places) (most index n : ℕ) (p q : Places) → slice_get places index ≡ Some p → length q.records ≡ length p.records → q.room ≡ p.room
    → IsRoom places most n → IsRoom (slice_set places index q) most n
room_kept places most index n p q there long room is = record {
  there = let within = is.there in omega (arith, within, length-set places index q);
  room = elim (cases_eq n index) [
    | inl same ↦
        let within = slice_get_within places index p there in
        let old : ¬ (length p.records ≡ most) → length p.records < p.room =
        some_is (slice_get places n) p (λ p. ¬ (length p.records ≡ most) → length p.records < p.room) (ap (slice_get places) same ∙ there) is.room
        in
        subst (λ (o : Option Places). IfSome o (λ p. ¬ (length p.records ≡ most) → length p.records < p.room))
        (sym (ap (slice_get (slice_set places index q)) same ∙ set_same places index q within))
        (λ other. let less = old (λ full. other (long ∙ full)) in omega (arith, less, long, room))
    | inr other ↦ subst (λ (o : Option Places). IfSome o (λ p. ¬ (length p.records ≡ most) → length p.records < p.room)) (sym (set_other places index n q other)) is.room
  ];
}

-- a place of a row that is seen is one of its records
pub place_within : (places : List Places) (index place : ℕ) → place < length (row_at (rows_of places) index) → place < length (row_at (records_of places) index)
place_within places index place within =
    let same : length (row_at (rows_of places) index) ≡ length (row_at (records_of places) index) =
    ap (λ (row : List Span). length row) (row_of places index) ∙ length-map (row_at (records_of places) index) (λ r. r.span)
    in
    omega (arith, within, same)

-- a row that is not empty has a place among the rows
pub row_within : (places : List Places) (index place : ℕ) → place < length (row_at (records_of places) index) → index < length places
row_within [] index place within = absurd (let e : ⊥ = omega (arith, within) in e)
row_within (p ∷ places) zero place within = omega arith
row_within (p ∷ places) (suc index) place within = let rest = row_within places index place within in omega (arith, rest)

-- the spans of a row after one was used, or put
pub spans_promoted : (place : ℕ) (records : List Linked) → spans_of (promoted place records) ≡ promoted place (spans_of records)
spans_promoted place records =
    by_cases (slice_get records place) refl
  where
    removed : spans_of (remove records place) ≡ remove (spans_of records) place
    removed =
        map-append (λ (r : Linked). r.span) (take place records) (drop (suc place) records)
        ∙ (ap (λ (xs : List Span). xs ++ spans_of (drop (suc place) records)) (sym (take-map (λ (r : Linked). r.span) place records))
        ∙ ap (λ (xs : List Span). take place (spans_of records) ++ xs) (sym (drop-map (λ (r : Linked). r.span) (suc place) records)))

    by_cases : (o : Option Linked) → slice_get records place ≡ o → spans_of (promoted place records) ≡ promoted place (spans_of records)
    by_cases None is =
        ap (λ (o : Option Linked). spans_of (option_map_or (λ s. s ∷ remove records place) o records)) is
        ∙ sym (ap (λ (o : Option Span). option_map_or (λ s. s ∷ remove (spans_of records) place) o (spans_of records)) (slice_get-map (λ (r : Linked). r.span) records place ∙ ap (option_map (λ (r : Linked). r.span)) is))
    by_cases (Some s) is =
        ap (λ (o : Option Linked). spans_of (option_map_or (λ s. s ∷ remove records place) o records)) is
        ∙ (ap (λ (xs : List Span). s.span ∷ xs) removed
        ∙ sym (ap (λ (o : Option Span). option_map_or (λ s. s ∷ remove (spans_of records) place) o (spans_of records)) (slice_get-map (λ (r : Linked). r.span) records place ∙ ap (option_map (λ (r : Linked). r.span)) is)))

pub spans_put : (r : Linked) (n : ℕ) (records : List Linked) → spans_of (r ∷ take n records) ≡ r.span ∷ take n (spans_of records)
spans_put r n records = ap (λ (xs : List Span). r.span ∷ xs) (sym (take-map (λ (r : Linked). r.span) n records))

-- the rows that are seen after one is changed
pub seen_set : (places : List Places) (index : ℕ) (q : Places) → index < length places → row_at (rows_of (slice_set places index q)) index ≡ spans_of q.records
seen_set places index q within = row_of (slice_set places index q) index ∙ ap spans_of (row_set places index q within)

pub seen_other : (places : List Places) (index i : ℕ) (q : Places) → ¬ (i ≡ index) → row_at (rows_of (slice_set places index q)) i ≡ row_at (rows_of places) i
seen_other places index i q other =
    row_of (slice_set places index q) i ∙ (ap spans_of (row_other places index i q other) ∙ sym (row_of places i))

-- rows with the same records are seen the same
pub seen_same : (old new : List Places) → ((i : ℕ) → row_at (records_of new) i ≡ row_at (records_of old) i) → (i : ℕ) → row_at (rows_of new) i ≡ row_at (rows_of old) i
seen_same old new same i = row_of new i ∙ (ap spans_of (same i) ∙ sym (row_of old i))

pub same_kept : (pages span : ℕ) (old new : List (List Linked)) (valid most names : ℕ) → AreRows pages span old valid most names → ((i : ℕ) → row_at new i ≡ row_at old i)
    → AreRows pages span new valid most names
same_kept pages span old new valid most names rows same =
    fewer_kept pages span old new valid most names rows (λ i r there. subst (λ (row : List Linked). Contains row r) (same i) there)
    (λ i. ap (λ (row : List Linked). length row) (same i))

-- a record is promoted
pub promote_kept : (pages span : ℕ) (places : List Places) (valid most names index place : ℕ) (p q : Places) → AreRows pages span (records_of places) valid most names
    → slice_get places index ≡ Some p → place < length p.records → q.records ≡ promoted place p.records
    → AreRows pages span (records_of (slice_set places index q)) valid most names
promote_kept pages span places valid most names index place p q rows there within is =
    fewer_kept pages span (records_of places) (records_of (slice_set places index q)) valid most names rows
    (λ i r now. elim (cases_eq i index) [
      | inl same ↦
          subst (λ (j : ℕ). Contains (row_at (records_of places) j) r) (sym same)
          (subst (λ (row : List Linked). Contains row r) (sym (row_is places index p there))
          (in_promoted place p.records r (subst (λ (row : List Linked). Contains row r) (here i same) now)))
      | inr other ↦ subst (λ (row : List Linked). Contains row r) (row_other places index i q other) now
    ])
    (λ i. elim (cases_eq i index) [
      | inl same ↦
          ap (λ (row : List Linked). length row) (here i same)
          ∙ (length_promoted place p.records within
          ∙ ap (λ (row : List Linked). length row) (sym (ap (row_at (records_of places)) same ∙ row_is places index p there)))
      | inr other ↦ ap (λ (row : List Linked). length row) (row_other places index i q other)
    ])
  where
    here : (i : ℕ) → i ≡ index → row_at (records_of (slice_set places index q)) i ≡ promoted place p.records
    here i same = ap (row_at (records_of (slice_set places index q))) same ∙ (row_set places index q (slice_get_within places index p there) ∙ is)

-- what it is that a first record follows another
pub followed : (pages span : ℕ) (places : List Places) (index : ℕ) → Follows pages span (first_at (rows_of places) index) (first_at (rows_of places) (index + 1))
    → (a b : Linked) → slice_get (row_at (records_of places) index) 0 ≡ Some a → slice_get (row_at (records_of places) (index + 1)) 0 ≡ Some b
    → b.span.start ≡ end_of pages span a.span
followed pages span places index follows a b one next =
    subst (λ (o : Option Span). Follows pages span (Some a.span) o) (span_at places (index + 1) 0 ∙ ap (option_map (λ (r : Linked). r.span)) next)
    (subst (λ (o : Option Span). Follows pages span o (first_at (rows_of places) (index + 1))) (span_at places index 0 ∙ ap (option_map (λ (r : Linked). r.span)) one) follows)

pub tied_row : (pages span : ℕ) (places : List Places) (index : ℕ) (o : Option Span) → Follows pages span (first_at (rows_of places) index) o → index < length places
tied_row pages span places index o follows =
    row_within places index 0 (place_within places index 0 (by_cases (row_at (rows_of places) index) follows))
  where
    by_cases : (row : List Span) → Follows pages span (slice_get row 0) o → 0 < length row
    by_cases [] follows = absurd follows
    by_cases (s ∷ row) follows = omega arith

-- an empty row more
pub row_pushed : (places : List Places) (p : Places) (i : ℕ) → p.records ≡ [] → row_at (records_of (places ++ p ∷ [])) i ≡ row_at (records_of places) i
row_pushed [] p zero none = none
row_pushed [] p (suc i) none = refl
row_pushed (q ∷ places) p zero none = refl
row_pushed (q ∷ places) p (suc i) none = row_pushed places p i none

pub not_both : {A E : Type 0} (r : Result A E) (e : E) → r ≡ Err e → ¬ IsOk r
not_both {A} {E} r e is ok = false≢true (subst (λ (r : Result A E). IsOk r) is ok)

-- ---- where spans end

-- of a row only this changes
pub kept_by : {A : Type 0} (of : Places → A) (places : List Places) (index : ℕ) (p q : Places) → slice_get places index ≡ Some p → of q ≡ of p
    → map of (slice_set places index q) ≡ map of places
kept_by of [] index p q there is = refl
kept_by {A} of (r ∷ places) zero p q there is = ap (λ (a : A). a ∷ map of places) (is ∙ ap of (let e : p ≡ r = cc in e))
kept_by {A} of (r ∷ places) (suc index) p q there is = ap (λ (all : List A). of r ∷ all) (kept_by of places index p q there is)

pub ends_within : (n : ℕ) (ends : List (Option State)) → length (ends_of n ends) ≤ length ends
unfolding ends_of
ends_within zero ends = omega arith
ends_within (suc n) [] = omega arith
ends_within (suc n) (None ∷ ends) = omega arith
ends_within (suc n) (Some end ∷ ends) = let rest = ends_within n ends in omega (arith, rest)

pub ends_at : (n : ℕ) (ends : List (Option State)) (i : ℕ) (o : Option State) → length (ends_of n ends) ≡ n → i < n → slice_get ends i ≡ Some o
    → slice_get (ends_of n ends) i ≡ o
unfolding ends_of
ends_at zero ends i o all within is = absurd (let e : ⊥ = omega (arith, within) in e)
ends_at (suc n) [] i o all within is = absurd (let e : ⊥ = omega (arith, all) in e)
ends_at (suc n) (None ∷ ends) i o all within is = absurd (let e : ⊥ = omega (arith, all) in e)
ends_at (suc n) (Some end ∷ ends) zero o all within is = cc
ends_at (suc n) (Some end ∷ ends) (suc i) o all within is = ends_at n ends i o (omega (arith, all)) (omega (arith, within)) is

pub ends_pushed : (n : ℕ) (ends : List (Option State)) → ends_of n (ends ++ None ∷ []) ≡ ends_of n ends
unfolding ends_of
ends_pushed zero ends = refl
ends_pushed (suc n) [] = refl
ends_pushed (suc n) (None ∷ ends) = refl
ends_pushed (suc n) (Some end ∷ ends) = ap (λ (all : List State). end ∷ all) (ends_pushed n ends)

pub ends_set : (i n m : ℕ) (ends : List (Option State)) (end : State) → length (ends_of n ends) ≡ n → i ≤ n → i < length ends → m ≡ max n (suc i)
    → ends_of m (slice_set ends i (Some end)) ≡ take i (ends_of n ends) ++ end ∷ drop (suc i) (ends_of n ends)
unfolding ends_of
ends_set i n m [] end all next within is = absurd (let e : ⊥ = omega (arith, within) in e)
ends_set zero zero m (e ∷ ends) end all next within is =
    ap (λ (m : ℕ). ends_of m (Some end ∷ ends)) (let same : m ≡ 1 = omega (arith, is) in same)
ends_set (suc i) zero m (e ∷ ends) end all next within is = absurd (let e : ⊥ = omega (arith, next) in e)
ends_set i (suc n) m (None ∷ ends) end all next within is = absurd (let e : ⊥ = omega (arith, all) in e)
ends_set zero (suc n) m (Some e ∷ ends) end all next within is =
    ap (λ (m : ℕ). ends_of m (Some end ∷ ends)) (let same : m ≡ suc n = omega (arith, is) in same)
ends_set (suc i) (suc n) m (Some e ∷ ends) end all next within is =
    ap (λ (m : ℕ). ends_of m (Some e ∷ slice_set ends i (Some end))) (let same : m ≡ suc (m - 1) = omega (arith, is) in same)
    ∙ ap (λ (all : List State). e ∷ all) (ends_set i n (m - 1) ends end (omega (arith, all)) (omega (arith, next)) (omega (arith, within)) (omega (arith, is)))

pub ends_long : {A : Type 0} (all : List A) (i : ℕ) (x : A) → i ≤ length all → length (take i all ++ x ∷ drop (suc i) all) ≡ max (length all) (suc i)
ends_long all i x within =
    omega (arith, within, length-append (take i all) (x ∷ drop (suc i) all), length-take i all, length-drop (suc i) all)
