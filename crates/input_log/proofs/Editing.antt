-- Edits of a log: the place that an event is put in, and that what they make is a log.
use Rattle.std.proofs.Common.{◌≡◌, ◌≢◌, ℕ, zero, suc, ◌+◌, ◌-◌, ◌<◌, ◌≤◌, Bool, eqb, true, false, cond, leb, ltb, List, [], ◌∷◌, ◌++◌, length, get_or, take, drop, ap, sym, subst, refl, add-one, arith, ◌∙◌, inl, inr, Ok, Some}
use Rattle.std.specs.List.{filter, insert, remove, prefix_len, slice_get, CopiedTo, SameBelow, SameFrom}
use Rattle.std.specs.List.Sorted.{IsPartitionPoint}
use Rattle.std.proofs.Math.ListN.{set, length-set}
use Rattle.std.proofs.lemmas.Bool.{cases_Bool, eqb-true, eqb-false, leb-true, leb-false, ltb-true, ltb-false, lt-ltb, le-ltb, le-leb, lt-leb}
use Rattle.std.proofs.lemmas.Bool.Decides.{nat_tests}
use Rattle.std.proofs.lemmas.List.{ext_get_or, get_or-set_same, get_or-set_other, length-take-le}
use Rattle.std.proofs.lemmas.List.Edits.{length-insert, length-remove, get_or-insert_below, get_or-insert_at, get_or-insert_above, get_or-remove_below, get_or-remove_above}
use Rattle.std.proofs.lemmas.Option.{slice_get-get_or}
use Rattle.std.proofs.lemmas.List.Folds.{length-prefix_len}
use Rattle.input_log.specs.Limits.{max_events, max_time}
use Rattle.input_log.specs.Event.{LogEvent, LineExists, HoldsByte}
use Rattle.input_log.specs.Log.{AreInOrder, IsLog, later_than}
use Rattle.input_log.specs.Edits.{up_to, with_event, without, at_time, adding, deleting, moving}
use Rattle.input_log.proofs.Filter.{filter-none, filter-all, filter-between, front, back}
use Rattle.input_log.proofs.Window.{ends_after, length-filter-le}
use Rattle.input_log.proofs.Logs.{IsEvent, AreEvents, at_least, events_from_log, log_from_events}

-- ---- the place after all events of a time or an earlier one

-- it is what a search finds
pub searched_place : (time : ℕ) (xs : List LogEvent) (place : ℕ) → place ≤ length xs
    → IsPartitionPoint (λ e. leb e.time time ≡ true) (λ e. leb e.time time ≡ false) xs place → place ≡ length (up_to time xs)
searched_place time xs place fits point =
    let found : up_to time xs ≡ take place xs =
    filter-between (λ e. leb e.time time) xs 0 place (omega arith) (λ k d low high. absurd (omega arith)) (λ k d low high. point.0 k d low (omega arith)) (λ k d low high. point.1 k d (omega arith) high) in
    sym (ap length found ∙ length-take-le place xs fits)

-- there the event is put
pub is_insert : (e : LogEvent) (xs : List LogEvent) → AreInOrder xs → with_event e xs ≡ insert xs (length (up_to e.time xs)) e
is_insert e xs order =
    let n = prefix_len (λ x. leb x.time e.time) xs in
    let before : take n xs ≡ up_to e.time xs = front (λ x. leb x.time e.time) (ends_after e.time) xs order in
    let after : drop n xs ≡ later_than e.time xs =
    back (λ x. leb x.time e.time) (λ x. ltb e.time x.time) (ends_after e.time) (λ x. grind (arith, nat_tests)) xs order in
    let place : n ≡ length (up_to e.time xs) = sym (length-prefix_len (λ x. leb x.time e.time) xs) ∙ ap length before in
    (λ i. sym before i ++ e ∷ sym after i) ∙ ap (λ m. insert xs m e) place

-- ---- a log without one of its events

pub is_remove : (place : ℕ) (xs : List LogEvent) → without place xs ≡ remove xs place
is_remove place xs = ap (λ n. take place xs ++ drop n xs) (add-one place)

-- how many pass a test
counted : (p : LogEvent → Bool) (xs : List LogEvent) (i : ℕ) (d : LogEvent) → i < length xs
    → length (filter p xs) ≡ length (filter p (remove xs i)) + cond (p (get_or xs i d)) 1 0
counted p [] i d lt = absurd (omega arith)
counted p (x ∷ xs) zero d lt =
    elim (cases_Bool (p x)) [
      | inl here ↦ rw here (omega arith)
      | inr gone ↦ rw gone (omega arith)
    ]
counted p (x ∷ xs) (suc i) d lt =
    let rest = counted p xs i d (omega arith) in
    elim (cases_Bool (p x)) [
      | inl here ↦ rw here (omega (arith, rest))
      | inr gone ↦ rw gone rest
    ]

-- the place after the others, where the event itself is of no later time, and where it is of a later one
pub place_before : (time place : ℕ) (xs : List LogEvent) (e : LogEvent) → place < length xs → e ≡ get_or xs place e → e.time ≤ time
    → length (up_to time xs) ≡ length (up_to time (without place xs)) + 1
place_before time place xs e lt is le =
    let here : (get_or xs place e).time ≤ time = subst (λ (x : LogEvent). x.time ≤ time) is le in
    let all = counted (λ x. leb x.time time) xs place e lt in
    rw (le-leb _ _ here) at all ∙ ap (λ ys. length (up_to time ys) + 1) (sym (is_remove place xs))

pub place_after : (time place : ℕ) (xs : List LogEvent) (e : LogEvent) → place < length xs → e ≡ get_or xs place e → time < e.time
    → length (up_to time xs) ≡ length (up_to time (without place xs))
place_after time place xs e lt is later =
    let here : time < (get_or xs place e).time = subst (λ (x : LogEvent). time < x.time) is later in
    let all = counted (λ x. leb x.time time) xs place e lt in
    let none : length (filter (λ x. leb x.time time) (remove xs place)) + 0 ≡ length (filter (λ x. leb x.time time) (remove xs place)) = omega arith in
    rw (lt-leb _ _ here) at all ∙ none ∙ ap (λ ys. length (up_to time ys)) (sym (is_remove place xs))

pub place_within : (time place : ℕ) (xs : List LogEvent) → place < length xs → length (up_to time (without place xs)) < length xs
place_within time place xs lt =
    let others : length (without place xs) ≡ length (remove xs place) = ap length (is_remove place xs) in
    omega (arith, others, length-remove xs place lt, length-filter-le (λ x. leb x.time time) (without place xs))

-- ---- an event that is put elsewhere

-- what stands at each place after it
abbrev Put : List LogEvent → List LogEvent → ℕ → ℕ → LogEvent → Type 0
Put xs zs from to y = (i : ℕ) → i < length zs → get_or zs i y ≡ get_or (insert (remove xs from) to y) i y

put_all : (xs zs : List LogEvent) (from to : ℕ) (y : LogEvent) → from < length xs → to < length xs → length zs ≡ length xs
    → Put xs zs from to y → zs ≡ insert (remove xs from) to y
put_all xs zs from to y out within long each =
    let left : length (remove xs from) + 1 ≡ length xs = length-remove xs from out in
    let all : length (insert (remove xs from) to y) ≡ length (remove xs from) + 1 = length-insert (remove xs from) to y (omega (arith, left)) in
    ext_get_or y zs (insert (remove xs from) to y) (omega (arith, long, left, all)) each

-- the elements between moved down by one, and the place above them is written
pub moved_up : (xs ys : List LogEvent) (from to : ℕ) (y : LogEvent) → from < to → to < length xs → length ys ≡ length xs
    → CopiedTo xs ys (from + 1) from (to + 1 - (from + 1)) → SameBelow xs ys from → SameFrom xs ys (from + (to + 1 - (from + 1)))
    → set ys to y ≡ insert (remove xs from) to y
moved_up xs ys from to y up lt long copied below above =
    let out : from < length xs = omega arith in
    let left : length (remove xs from) + 1 ≡ length xs = length-remove xs from out in
    let within : to ≤ length (remove xs from) = omega (arith, left) in
    let same : length (set ys to y) ≡ length xs = simp length-set long in
    put_all xs (set ys to y) from to y out lt same (λ i _.
    elim (cases_Bool (ltb i from)) [
      | inl h ↦ let low : i < from = ltb-true _ _ h in
          get_or-set_other ys to i y y (omega arith) ∙ below i y low
          ∙ sym (get_or-insert_below (remove xs from) to y y i (omega arith) within ∙ get_or-remove_below xs from y i low out)
      | inr h ↦ let high : from ≤ i = ltb-false _ _ h in
          elim (cases_Bool (ltb i to)) [
            | inl h2 ↦ let low : i < to = ltb-true _ _ h2 in
                let next : from + 1 + (i - from) ≡ i + 1 = omega arith in
                get_or-set_other ys to i y y (omega arith) ∙ copied i y high (omega arith) ∙ ap (λ n. get_or xs n y) next
                ∙ sym (get_or-insert_below (remove xs from) to y y i low within ∙ get_or-remove_above xs from y i high out)
            | inr h2 ↦ let after : to ≤ i = ltb-false _ _ h2 in
                elim (cases_Bool (eqb i to)) [
                  | inl e ↦ let at : i ≡ to = eqb-true _ _ e in
                      rw at (get_or-set_same ys to y y (omega arith) ∙ sym (get_or-insert_at (remove xs from) to y y within))
                  | inr e ↦ let other : i ≢ to = eqb-false _ _ e in
                      let before : i ≡ i - 1 + 1 = omega arith in
                      get_or-set_other ys to i y y other ∙ above i y (omega arith)
                      ∙ sym (ap (λ n. get_or (insert (remove xs from) to y) n y) before ∙ get_or-insert_above (remove xs from) to y y (i - 1) (omega arith) within
                      ∙ get_or-remove_above xs from y (i - 1) (omega arith) out ∙ ap (λ n. get_or xs n y) (sym before))
                ]
          ]
    ])

-- the elements between moved up by one, and the place below them is written
pub moved_down : (xs ys : List LogEvent) (from to : ℕ) (y : LogEvent) → to ≤ from → from < length xs → length ys ≡ length xs
    → CopiedTo xs ys to (to + 1) (from - to) → SameBelow xs ys (to + 1) → SameFrom xs ys (to + 1 + (from - to))
    → set ys to y ≡ insert (remove xs from) to y
moved_down xs ys from to y down out long copied below above =
    let left : length (remove xs from) + 1 ≡ length xs = length-remove xs from out in
    let within : to ≤ length (remove xs from) = omega (arith, left) in
    let same : length (set ys to y) ≡ length xs = simp length-set long in
    put_all xs (set ys to y) from to y out (omega arith) same (λ i _.
    elim (cases_Bool (ltb i to)) [
      | inl h ↦ let low : i < to = ltb-true _ _ h in
          get_or-set_other ys to i y y (omega arith) ∙ below i y (omega arith)
          ∙ sym (get_or-insert_below (remove xs from) to y y i low within ∙ get_or-remove_below xs from y i (omega arith) out)
      | inr h ↦ let high : to ≤ i = ltb-false _ _ h in
          elim (cases_Bool (eqb i to)) [
            | inl e ↦ let at : i ≡ to = eqb-true _ _ e in
                rw at (get_or-set_same ys to y y (omega arith) ∙ sym (get_or-insert_at (remove xs from) to y y within))
            | inr e ↦ let other : i ≢ to = eqb-false _ _ e in
                let before : i ≡ i - 1 + 1 = omega arith in
                let put : get_or (insert (remove xs from) to y) i y ≡ get_or (remove xs from) (i - 1) y =
                ap (λ n. get_or (insert (remove xs from) to y) n y) before ∙ get_or-insert_above (remove xs from) to y y (i - 1) (omega arith) within in
                elim (cases_Bool (leb i from)) [
                  | inl h2 ↦ let low : i ≤ from = leb-true _ _ h2 in
                      let back : to + (i - (to + 1)) ≡ i - 1 = omega arith in
                      get_or-set_other ys to i y y other ∙ copied i y (omega arith) (omega arith) ∙ ap (λ n. get_or xs n y) back
                      ∙ sym (put ∙ get_or-remove_below xs from y (i - 1) (omega arith) out)
                  | inr h2 ↦ let far : from < i = leb-false _ _ h2 in
                      get_or-set_other ys to i y y other ∙ above i y (omega arith)
                      ∙ sym (put ∙ get_or-remove_above xs from y (i - 1) (omega arith) out ∙ ap (λ n. get_or xs n y) (sym before))
                ]
          ]
    ])

-- ---- what is made is a log

kept_lower : (low last : ℕ) (es : List LogEvent) → low ≤ last → AreEvents last es → AreEvents low es
kept_lower low last [] le are = tt
kept_lower low last (e ∷ es) le are = (omega (arith, are.0), are.1, are.2)

kept_remove : (last : ℕ) (es : List LogEvent) (i : ℕ) → AreEvents last es → AreEvents last (remove es i)
kept_remove last [] zero are = tt
kept_remove last [] (suc i) are = tt
kept_remove last (e ∷ es) zero are = kept_lower last e.time es are.0 are.2
kept_remove last (e ∷ es) (suc i) are = (are.0, are.1, kept_remove e.time es i are.2)

kept_with : (last : ℕ) (e : LogEvent) (es : List LogEvent) → last ≤ e.time → IsEvent e → AreEvents last es → AreEvents last (with_event e es)
kept_with last e [] le good are = (le, good, tt)
kept_with last e (x ∷ xs) le good are =
    elim (cases_Bool (leb x.time e.time)) [
      | inl before ↦
          rw (before, le-ltb _ _ (leb-true _ _ before)) (are.0, are.1, kept_with x.time e xs (leb-true _ _ before) good are.2)
      | inr after ↦
          let lt : e.time < x.time = leb-false _ _ after in
          let none : up_to e.time xs ≡ [] = filter-none (λ k. leb k.time e.time) xs (λ k d low high. lt-leb _ _ (omega (arith, lt, at_least x.time xs are.2 k d high))) in
          let all : later_than e.time xs ≡ xs = filter-all (λ k. ltb e.time k.time) xs (λ k d low high. lt-ltb _ _ (omega (arith, lt, at_least x.time xs are.2 k d high))) in
          rw (after, lt-ltb _ _ lt, none, all) (le, good, (omega arith, are.1, are.2))
    ]

pub log_without : (place : ℕ) (xs : List LogEvent) → IsLog xs → place < length xs → IsLog (without place xs)
log_without place xs good lt =
    subst IsLog (sym (is_remove place xs))
    (log_from_events (remove xs place) (omega (arith, good.few, length-remove xs place lt)) (kept_remove 0 xs place (events_from_log xs good)))

pub log_removed : (place : ℕ) (xs : List LogEvent) → IsLog xs → place < length xs → IsLog (remove xs place)
log_removed place xs good lt = subst IsLog (is_remove place xs) (log_without place xs good lt)

pub log_with : (e : LogEvent) (xs : List LogEvent) → IsEvent e → length xs < max_events → IsLog xs → IsLog (with_event e xs)
log_with e xs event few good =
    let place : length (up_to e.time xs) ≤ length xs = length-filter-le (λ x. leb x.time e.time) xs in
    let long : length (with_event e xs) ≡ length xs + 1 = ap length (is_insert e xs good.in_order) ∙ length-insert xs _ e place in
    log_from_events (with_event e xs) (omega (arith, few, long)) (kept_with 0 e xs (omega arith) event (events_from_log xs good))

-- what each edit makes, where it is not refused
pub added : (e : LogEvent) (xs : List LogEvent) → IsEvent e → length xs < max_events → adding e xs ≡ Ok (with_event e xs)
added e xs event few = rw (le-leb _ _ event.line, le-leb _ _ event.byte, le-leb _ _ event.time, lt-ltb _ _ few) refl

pub deleted : (place : ℕ) (xs : List LogEvent) → place < length xs → deleting place xs ≡ Ok (remove xs place)
deleted place [] lt = absurd (omega arith)
deleted place (x ∷ xs) lt = rw (slice_get-get_or (x ∷ xs) place x lt) (ap (λ (ys : List LogEvent). Ok ys) (is_remove place (x ∷ xs)))

pub relocated : (place time : ℕ) (xs : List LogEvent) (e : LogEvent) → time ≤ max_time → place < length xs → e ≡ get_or xs place e
    → moving place time xs ≡ Ok (with_event (at_time time e) (without place xs))
relocated place time xs e le lt is =
    let there : slice_get xs place ≡ Some e = slice_get-get_or xs place e lt ∙ ap (λ x. Some x) (sym is) in
    rw (le-leb _ _ le, there) refl

-- an event that is put at its place among the others
pub put_there : (place : ℕ) (xs : List LogEvent) (to : ℕ) (e : LogEvent) → IsLog xs → place < length xs → to ≡ length (up_to e.time (without place xs))
    → insert (remove xs place) to e ≡ with_event e (without place xs)
put_there place xs to e good lt at =
    sym (is_insert e (without place xs) (log_without place xs good lt).in_order ∙ ap (λ n. insert (without place xs) n e) (sym at)
    ∙ ap (λ ys. insert ys to e) (is_remove place xs))

pub log_relocated : (place time : ℕ) (xs : List LogEvent) (e : LogEvent) → IsLog xs → place < length xs → e ≡ get_or xs place e → time ≤ max_time
    → IsLog (with_event (at_time time e) (without place xs))
log_relocated place time xs e good lt is le =
    let others : length (without place xs) ≡ length (remove xs place) = ap length (is_remove place xs) in
    let line : LineExists e = subst LineExists (sym is) (good.lines_exist place e lt) in
    let byte : HoldsByte e = subst HoldsByte (sym is) (good.hold_bytes place e lt) in
    log_with (at_time time e) (without place xs) (record { line = line; byte = byte; time = le })
    (omega (arith, good.few, others, length-remove xs place lt)) (log_without place xs good lt)
