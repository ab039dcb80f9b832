-- Erasing the events of a range of times: the places that they stand at, and what is left.
use Rattle.std.proofs.Common.{◌≡◌, ℕ, ◌≤◌, ◌⊎◌, inl, inr, Bool, true, false, not, leb, ltb, ◌&&◌, List, ◌++◌, length, take, drop, ap, sym, refl, arith, ◌∙◌, Ok}
use Rattle.std.specs.List.{filter, remove_range, prefix_len}
use Rattle.std.specs.List.Sorted.{IsPartitionPoint}
use Rattle.std.proofs.lemmas.Bool.{le-leb}
use Rattle.std.proofs.lemmas.Bool.Decides.{nat_tests}
use Rattle.std.proofs.lemmas.List.{length-take-le, take-append-drop}
use Rattle.std.proofs.lemmas.List.Elements.{filter-append}
use Rattle.std.proofs.lemmas.List.Folds.{length-prefix_len}
use Rattle.input_log.specs.Limits.{max_position}
use Rattle.input_log.specs.Event.{LogEvent}
use Rattle.input_log.specs.Log.{AreInOrder, IsLog, window_of, earlier_than}
use Rattle.input_log.specs.Edits.{without_times, erasing}
use Rattle.input_log.proofs.Filter.{filter-between, filter-filter, front, back}
use Rattle.input_log.proofs.Window.{filtered_log, length-filter-le, ends_before}

-- ---- the place before all events of a time or a later one

-- it is what a search finds
pub searched_start : (time : ℕ) (xs : List LogEvent) (place : ℕ) → place ≤ length xs
    → IsPartitionPoint (λ e. ltb e.time time ≡ true) (λ e. ltb e.time time ≡ false) xs place → place ≡ length (earlier_than time xs)
searched_start time xs place fits point =
    let found : earlier_than time xs ≡ take place xs =
    filter-between (λ e. ltb e.time time) xs 0 place (omega arith) (λ k d low high. absurd (omega arith)) (λ k d low high. point.0 k d low (omega arith)) (λ k d low high. point.1 k d (omega arith) high) in
    sym (ap length found ∙ length-take-le place xs fits)

start_is : (time : ℕ) (xs : List LogEvent) → AreInOrder xs → length (earlier_than time xs) ≡ prefix_len (λ e. ltb e.time time) xs
start_is time xs order = sym (ap length (front (λ e. ltb e.time time) (ends_before time) xs order)) ∙ length-prefix_len (λ e. ltb e.time time) xs

-- what stands before it, and what stands from it on
before_place : (time : ℕ) (xs : List LogEvent) → AreInOrder xs → take (length (earlier_than time xs)) xs ≡ earlier_than time xs
before_place time xs order = ap (λ n. take n xs) (start_is time xs order) ∙ front (λ e. ltb e.time time) (ends_before time) xs order

from_place : (time : ℕ) (xs : List LogEvent) → AreInOrder xs → drop (length (earlier_than time xs)) xs ≡ filter (λ e. leb time e.time) xs
from_place time xs order =
    ap (λ n. drop n xs) (start_is time xs order)
    ∙ back (λ e. ltb e.time time) (λ e. leb time e.time) (ends_before time) (λ e. grind (arith, nat_tests)) xs order

pub places_in_order : (from to : ℕ) (xs : List LogEvent) → from ≤ to → length (earlier_than from xs) ≤ length (earlier_than to xs)
places_in_order from to xs le =
    let within = filter-filter (λ e. ltb e.time from) (λ e. ltb e.time to) (λ e. ltb e.time from) (λ e. grind (arith, nat_tests)) xs in
    omega (arith, ap length within, length-filter-le (λ e. ltb e.time from) (earlier_than to xs))

-- ---- what is left

-- what stands before the one place and from the other on
pub left_is : (from to : ℕ) (xs : List LogEvent) → AreInOrder xs → from ≤ to
    → without_times from to xs ≡ remove_range xs (length (earlier_than from xs)) (length (earlier_than to xs))
left_is from to xs order le =
    let keeps : LogEvent → Bool = λ e. not (leb from e.time && ltb e.time to) in
    let place = length (earlier_than from xs) in
    let early : filter keeps (take place xs) ≡ take place xs =
    ap (filter keeps) (before_place from xs order)
    ∙ filter-filter keeps (λ e. ltb e.time from) (λ e. ltb e.time from) (λ e. grind (arith, nat_tests)) xs
    ∙ sym (before_place from xs order) in
    let late : filter keeps (drop place xs) ≡ drop (length (earlier_than to xs)) xs =
    ap (filter keeps) (from_place from xs order)
    ∙ filter-filter keeps (λ e. leb from e.time) (λ e. leb to e.time) (λ e. grind (arith, nat_tests)) xs
    ∙ sym (from_place to xs order) in
    ap (filter keeps) (sym (take-append-drop place xs)) ∙ filter-append keeps (take place xs) (drop place xs)
    ∙ (λ i. early i ++ late i)

-- what erasing makes, where it is not refused
pub erased : (from to : ℕ) (xs : List LogEvent) → from ≤ to → to ≤ max_position → erasing from to xs ≡ Ok (without_times from to xs)
erased from to xs le within = rw (le-leb _ _ le, le-leb _ _ within) refl

-- ---- laws

pub log_without_times : (from to : ℕ) (log : List LogEvent) → IsLog log → IsLog (without_times from to log)
log_without_times from to log good = filtered_log (λ e. not (leb from e.time && ltb e.time to)) log good

pub window_kept : (from to first last : ℕ) (log : List LogEvent) → (last ≤ from) ⊎ (to ≤ first)
    → window_of first last (without_times from to log) ≡ window_of first last log
window_kept from to first last log (inl le) =
    filter-filter (λ e. leb first e.time && ltb e.time last) (λ e. not (leb from e.time && ltb e.time to)) (λ e. leb first e.time && ltb e.time last)
    (λ e. grind (arith, nat_tests)) log
window_kept from to first last log (inr le) =
    filter-filter (λ e. leb first e.time && ltb e.time last) (λ e. not (leb from e.time && ltb e.time to)) (λ e. leb first e.time && ltb e.time last)
    (λ e. grind (arith, nat_tests)) log
