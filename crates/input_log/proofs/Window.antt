-- A window: what two searches find, windows within windows, and the way along one.
use Rattle.std.proofs.Common.{◌≡◌, ℕ, ◌+◌, ◌-◌, ◌<◌, ◌≤◌, Bool, true, false, ltb, leb, List, [], ◌++◌, length, get_or, take, drop, ap, sym, subst, arith, refl, ◌&&◌, ◌∙◌}
use Rattle.std.specs.Prelude.{All}
use Rattle.std.specs.List.{filter, prefix_len}
use Rattle.std.specs.List.Sorted.{IsPartitionPoint}
use Rattle.std.proofs.lemmas.Bool.{ltb-true, ltb-false, leb-true, leb-false, lt-ltb, le-ltb, le-leb, lt-leb, and_parts, and_from}
use Rattle.std.proofs.lemmas.Bool.Decides.{nat_tests}
use Rattle.std.proofs.lemmas.List.{get_or-drop, length-drop, take-append-drop}
use Rattle.std.proofs.lemmas.List.Elements.{All-filter, All-weaker, filter_passes}
use Rattle.std.proofs.lemmas.List.Kept.{IsNonDecreasingBy-filter}
use Rattle.std.proofs.lemmas.List.Sorted.{IsNonDecreasingBy-drop}
use Rattle.std.proofs.lemmas.List.Sums.{length-filter, count_by-le-length}
use Rattle.input_log.specs.Event.{LogEvent, LineExists, HoldsByte, IsInTime}
use Rattle.input_log.specs.Log.{AreInOrder, AreWithin, IsLog, window_of, later_than}
use Rattle.input_log.proofs.Filter.{filter-none, filter-all, filter-between, filter-filter, Ends, front, back}

-- ---- what two searches find

-- what stands after a place
at_rest : {X : Type 0} (xs : List X) (i k : ℕ) (d : X) → i ≤ k
    → get_or (drop i xs) (k - i) d ≡ get_or xs k d
at_rest xs i k d low = get_or-drop i xs (k - i) d ∙ ap (λ n. get_or xs n d) (omega arith)

pub and-false : (a b : Bool) → b ≡ false → (a && b) ≡ false
and-false true b h = h
and-false false b h = refl

-- the two searches of a window give the filter
pub window-between : (xs : List LogEvent) (from to i j : ℕ) → i ≤ length xs
    → j ≤ length (drop i xs)
    → IsPartitionPoint (λ e. ltb e.time from ≡ true) (λ e. ltb e.time from ≡ false) xs i
    → IsPartitionPoint (λ e. ltb e.time to ≡ true) (λ e. ltb e.time to ≡ false) (drop i xs) j
    → take j (drop i xs) ≡ window_of from to xs
window-between xs from to i j start_fits end_fits start end =
    let long : length (drop i xs) + i ≡ length xs = omega (arith, length-drop i xs) in
    let before = λ (k : ℕ) (d : LogEvent) (low : i ≤ k) (high : k - i < j).
    subst (λ e. ltb e.time to ≡ true) (at_rest xs i k d low) (end.0 (k - i) d (omega arith) high) in
    let after = λ (k : ℕ) (d : LogEvent) (low : i ≤ k) (past : j ≤ k - i) (high : k < length xs).
    subst (λ e. ltb e.time to ≡ false) (at_rest xs i k d low) (end.1 (k - i) d past (omega arith)) in
    sym (filter-between (λ e. leb from e.time && ltb e.time to) xs i j (omega arith)
    (λ k d low high. rw (lt-leb from (get_or xs k d).time (ltb-true _ _ (start.0 k d low high))) refl)
    (λ k d low high. rw (le-leb from (get_or xs k d).time (ltb-false _ _ (start.1 k d low (omega arith))), before k d low (omega arith)) refl)
    (λ k d low high. and-false _ _ (after k d (omega arith) (omega arith) high)))

-- ---- windows within windows

pub narrowed : (from to first last : ℕ) (log : List LogEvent) → from ≤ first → last ≤ to → window_of first last (window_of from to log) ≡ window_of first last log
narrowed from to first last log low high =
    filter-filter (λ e. leb first e.time && ltb e.time last) (λ e. leb from e.time && ltb e.time to) (λ e. leb first e.time && ltb e.time last)
    (λ e. grind (arith, nat_tests)) log

pub later : (time from to : ℕ) (log : List LogEvent) → from ≤ time + 1 → later_than time (window_of from to log) ≡ window_of (time + 1) to log
later time from to log low =
    filter-filter (λ e. ltb time e.time) (λ e. leb from e.time && ltb e.time to) (λ e. leb (time + 1) e.time && ltb e.time to)
    (λ e. grind (arith, nat_tests)) log

-- a window whose times all lie in it
pub whole : (from to : ℕ) (log : List LogEvent) → AreWithin from to log → window_of from to log ≡ log
whole from to log are =
    filter-all (λ e. leb from e.time && ltb e.time to) log
    (λ k d low high. and_from _ _ (le-leb from (get_or log k d).time (are k d high).0) (lt-ltb (get_or log k d).time to (are k d high).1))

pub are_within : (from to : ℕ) (log : List LogEvent) → AreWithin from to (window_of from to log)
are_within from to log =
    All-weaker (λ e. (leb from e.time && ltb e.time to) ≡ true) (λ e. (from ≤ e.time) × (e.time < to))
    (λ e h. let both = and_parts (leb from e.time) (ltb e.time to) h in (leb-true from e.time both.0, ltb-true e.time to both.1))
    (window_of from to log) (filter_passes (λ e. leb from e.time && ltb e.time to) log)

pub in_order : (from to : ℕ) (log : List LogEvent) → AreInOrder log → AreInOrder (window_of from to log)
in_order from to log order = IsNonDecreasingBy-filter (λ e. e.time) (λ e. leb from e.time && ltb e.time to) log order

pub length-filter-le : {X : Type 0} (p : X → Bool) (xs : List X) → length (filter p xs) ≤ length xs
length-filter-le p xs = omega (arith, length-filter p xs, count_by-le-length p xs)

pub filtered_log : (p : LogEvent → Bool) (log : List LogEvent) → IsLog log → IsLog (filter p log)
filtered_log p log good =
    record {
      in_order = IsNonDecreasingBy-filter (λ e. e.time) p log good.in_order;
      few = omega (arith, good.few, length-filter-le p log);
      lines_exist = All-filter p LineExists log good.lines_exist;
      hold_bytes = All-filter p HoldsByte log good.hold_bytes;
      in_time = All-filter p IsInTime log good.in_time;
    }

pub is_log : (from to : ℕ) (log : List LogEvent) → IsLog log → IsLog (window_of from to log)
is_log from to log good = filtered_log (λ e. leb from e.time && ltb e.time to) log good

-- a window and the one that begins where it ends
pub ends_before : (time : ℕ) → Ends (λ e. ltb e.time time)
ends_before time x y le h = le-ltb y.time time (omega (arith, ltb-false x.time time h))

pub ends_after : (time : ℕ) → Ends (λ e. leb e.time time)
ends_after time x y le h = lt-leb y.time time (omega (arith, leb-false x.time time h))

pub split : (from middle to : ℕ) (log : List LogEvent) → AreInOrder log → from ≤ middle → middle ≤ to → window_of from middle log ++ window_of middle to log ≡ window_of from to log
split from middle to log order low high =
    let all = window_of from to log in
    let p : LogEvent → Bool = λ e. ltb e.time middle in
    let q : LogEvent → Bool = λ e. leb middle e.time in
    let sorted = in_order from to log order in
    let first : take (prefix_len p all) all ≡ window_of from middle log =
    front p (ends_before middle) all sorted
    ∙ filter-filter p (λ e. leb from e.time && ltb e.time to) (λ e. leb from e.time && ltb e.time middle) (λ e. grind (arith, nat_tests)) log in
    let second : drop (prefix_len p all) all ≡ window_of middle to log =
    back p q (ends_before middle) (λ e. grind (arith, nat_tests)) all sorted
    ∙ filter-filter q (λ e. leb from e.time && ltb e.time to) (λ e. leb middle e.time && ltb e.time to) (λ e. grind (arith, nat_tests)) log in
    (λ i. sym first i ++ sym second i) ∙ take-append-drop (prefix_len p all) all

-- ---- the way along events in order: those of times before the present one, then those of the present one, then the rest

abbrev pub not_before : ℕ → List LogEvent → List LogEvent
not_before time events = drop (prefix_len (λ e. ltb e.time time) events) events

not_before-is : (time : ℕ) (events : List LogEvent) → AreInOrder events → not_before time events ≡ filter (λ e. leb time e.time) events
not_before-is time events order = back (λ e. ltb e.time time) (λ e. leb time e.time) (ends_before time) (λ e. grind (arith, nat_tests)) events order

pub order-not_before : (time : ℕ) (events : List LogEvent) → AreInOrder events → AreInOrder (not_before time events)
order-not_before time events order = IsNonDecreasingBy-drop (λ e. e.time) (prefix_len (λ e. ltb e.time time) events) events order

pub taken : (time : ℕ) (events : List LogEvent) → AreInOrder events
    → take (prefix_len (λ e. leb e.time time) (not_before time events)) (not_before time events) ≡ window_of time (time + 1) events
taken time events order =
    front (λ e. leb e.time time) (ends_after time) (not_before time events) (order-not_before time events order)
    ∙ ap (filter (λ e. leb e.time time)) (not_before-is time events order)
    ∙ filter-filter (λ e. leb e.time time) (λ e. leb time e.time) (λ e. leb time e.time && ltb e.time (time + 1)) (λ e. grind (arith, nat_tests)) events

pub left : (time : ℕ) (events : List LogEvent) → AreInOrder events
    → drop (prefix_len (λ e. leb e.time time) (not_before time events)) (not_before time events) ≡ later_than time events
left time events order =
    back (λ e. leb e.time time) (λ e. ltb time e.time) (ends_after time) (λ e. grind (arith, nat_tests)) (not_before time events) (order-not_before time events order)
    ∙ ap (filter (λ e. ltb time e.time)) (not_before-is time events order)
    ∙ filter-filter (λ e. ltb time e.time) (λ e. leb time e.time) (λ e. ltb time e.time) (λ e. grind (arith, nat_tests)) events

-- where all are later
pub none_taken : (time first : ℕ) (events : List LogEvent) → time < first → All (λ e. first ≤ e.time) events → window_of time (time + 1) events ≡ []
none_taken time first events lt later =
    filter-none (λ e. leb time e.time && ltb e.time (time + 1)) events (λ k d low high. let h : first ≤ (get_or events k d).time = later k d high in grind (arith, nat_tests))

pub all_left : (time first : ℕ) (events : List LogEvent) → time < first → All (λ e. first ≤ e.time) events → later_than time events ≡ events
all_left time first events lt later =
    filter-all (λ e. ltb time e.time) events (λ k d low high. lt-ltb time (get_or events k d).time (omega (arith, later k d high)))
