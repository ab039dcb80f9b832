-- Laws of edits: an edited log is a log, and its windows without the times of the edit are as before.
use Rattle.std.proofs.Common.{◌≡◌, ℕ, zero, suc, ◌<◌, ◌≤◌, ◌⊎◌, Bool, true, false, cond, leb, ltb, List, [], ◌∷◌, ◌++◌, length, ap, sym, subst, refl, arith, ◌∙◌, ◌&&◌, inl, inr, Option, Some, None, Result, Ok, Err}
use Rattle.std.specs.Prelude.{slice_set}
use Rattle.std.specs.List.{filter, remove, slice_get}
use Rattle.std.proofs.Math.ListN.{set, length-set}
use Rattle.std.proofs.lemmas.Bool.{cases_Bool, leb-true, ltb-true, lt-leb, le-ltb, and_parts}
use Rattle.std.proofs.lemmas.Bool.Decides.{nat_tests}
use Rattle.std.proofs.lemmas.List.{append-nil}
use Rattle.std.proofs.lemmas.List.Elements.{filter-append}
use Rattle.std.proofs.lemmas.Option.{slice_get_within, get_or_from_slice_get}
use Rattle.input_log.specs.Limits.{max_events, max_position, max_time}
use Rattle.input_log.specs.Event.{LogEvent, max_line, max_byte}
use Rattle.input_log.specs.Log.{IsLog, window_of, later_than}
use Rattle.input_log.specs.declared.edit.Edit.{Edit}
use Rattle.input_log.specs.declared.edit.Edit.TheVariants.{Add, Delete, Set, Move, Erase}
use Rattle.input_log.specs.Edits.{AreSameOutside, IsOutside, up_to, with_event, without, without_times, with_byte, at_time, made_of, edited, time_of, times_of}
use Rattle.input_log.proofs.Filter.{filter-none, filter-filter}
use Rattle.input_log.proofs.Window.{and-false}
use Rattle.input_log.proofs.Logs.{IsEvent, AreEvents, events_from_log, log_from_events}
use Rattle.input_log.proofs.Editing.{is_remove, log_without, log_with, log_relocated}
use Rattle.input_log.proofs.Erased.{window_kept, log_without_times}
use Rattle.refusal.specs.declared.fault.Fault.{Fault}
use Rattle.refusal.specs.declared.fault.Fault.TheVariants.{Range}

-- ---- an edit that was not refused

made_parts : (make : LogEvent → Result (List LogEvent) Fault) (o : Option LogEvent) (new : List LogEvent) → made_of make o ≡ Ok new
    → (e : LogEvent) × (o ≡ Some e) × (make e ≡ Ok new)
made_parts make (Some e) new h = (e, refl, h)
made_parts make None new h = absurd cc

passed : (b : Bool) (r : Result (List LogEvent) Fault) (d : Fault) (new : List LogEvent) → cond b r (Err d) ≡ Ok new → (b ≡ true) × (r ≡ Ok new)
passed true r d new h = (refl, h)
passed false r d new h = absurd cc

made_is : (made new : List LogEvent) → (let r : Result (List LogEvent) Fault = Ok made in r ≡ Ok new) → made ≡ new
made_is made new h = cc

accepted : (b : Bool) (made new : List LogEvent) → cond {A = Result (List LogEvent) Fault} b (Ok made) (Err Range) ≡ Ok new → (b ≡ true) × (made ≡ new)
accepted b made new h = let good = passed b (Ok made) Range new h in (good.0, made_is made new good.1)

abbrev can_be_added : LogEvent → List LogEvent → Bool
can_be_added e log = leb e.line (max_line e.kind) && (leb e.byte (max_byte e.kind) && (leb e.time max_time && ltb (length log) max_events))

abbrev holding : (place byte : ℕ) → List LogEvent → LogEvent → Result (List LogEvent) Fault
holding place byte log e = cond (leb byte (max_byte e.kind)) (Ok (slice_set log place (with_byte byte e))) (Err Range)

abbrev moved_to : (place time : ℕ) → List LogEvent → LogEvent → Result (List LogEvent) Fault
moved_to place time log e = Ok (with_event (at_time time e) (without place log))

-- ---- an edited log is a log

events_set : (last : ℕ) (es : List LogEvent) (i : ℕ) (e : LogEvent) (byte : ℕ) → byte ≤ max_byte e.kind → slice_get es i ≡ Some e → AreEvents last es
    → AreEvents last (slice_set es i (with_byte byte e))
events_set last [] i e byte lt h are = absurd cc
events_set last (x ∷ xs) zero e byte lt h are =
    let same : x ≡ e = cc in
    let holds : byte ≤ max_byte x.kind = subst (λ (y : LogEvent). byte ≤ max_byte y.kind) (sym same) lt in
    subst (λ (y : LogEvent). AreEvents last (with_byte byte y ∷ xs)) same (are.0, record { line = are.1.line; byte = holds; time = are.1.time }, are.2)
events_set last (x ∷ xs) (suc i) e byte lt h are = (are.0, are.1, events_set x.time xs i e byte lt h are.2)

pub is_log_still : (edit : Edit) (log new : List LogEvent) → IsLog log → edited edit log ≡ Ok new → IsLog new
is_log_still (Add time kind line byte) log new good h =
    let event : LogEvent = record { time = time; kind = kind; line = line; byte = byte } in
    let taken = accepted (can_be_added event log) (with_event event log) new h in
    let line = and_parts _ _ taken.0 in
    let byte = and_parts _ _ line.1 in
    let time = and_parts _ _ byte.1 in
    let is : IsEvent event = record { line = leb-true _ _ line.0; byte = leb-true _ _ byte.0; time = leb-true _ _ time.0 } in
    subst IsLog taken.1 (log_with event log is (ltb-true _ _ time.1) good)
is_log_still (Delete place) log new good h =
    let was = made_parts (λ _. Ok (without place log)) (slice_get log place) new h in
    subst IsLog (made_is (without place log) new was.2) (log_without place log good (slice_get_within log place was.0 was.1))
is_log_still (Set place byte) log new good h =
    let was = made_parts (holding place byte log) (slice_get log place) new h in
    let set_log = slice_set log place (with_byte byte was.0) in
    let taken = accepted (leb byte (max_byte was.0.kind)) set_log new was.2 in
    let long : length set_log ≡ length log = simp length-set in
    subst IsLog taken.1
    (log_from_events set_log (omega (arith, good.few, long)) (events_set 0 log place was.0 byte (leb-true _ _ taken.0) was.1 (events_from_log log good)))
is_log_still (Move place time) log new good h =
    let taken = passed (leb time max_time) (made_of (moved_to place time log) (slice_get log place)) Range new h in
    let was = made_parts (moved_to place time log) (slice_get log place) new taken.1 in
    subst IsLog (made_is (with_event (at_time time was.0) (without place log)) new was.2)
    (log_relocated place time log was.0 good (slice_get_within log place was.0 was.1) (sym (get_or_from_slice_get log place was.0 was.0 was.1)) (leb-true _ _ taken.0))
is_log_still (Erase from to) log new good h =
    subst IsLog (accepted (leb from to && leb to max_position) (without_times from to log) new h).1 (log_without_times from to log good)

-- ---- windows without the times of an edit

passes_none : (from to : ℕ) (e : LogEvent) → IsOutside e.time from to → (leb from e.time && ltb e.time to) ≡ false
passes_none from to e (inl before) = rw (lt-leb _ _ before) refl
passes_none from to e (inr after) = and-false _ _ (le-ltb _ _ after)

filter-remove : (p : LogEvent → Bool) (xs : List LogEvent) (i : ℕ) (e : LogEvent) → slice_get xs i ≡ Some e → p e ≡ false → filter p (remove xs i) ≡ filter p xs
filter-remove p [] i e h none = absurd cc
filter-remove p (x ∷ xs) zero e h none =
    let same : e ≡ x = cc in
    let gone : p x ≡ false = ap p (sym same) ∙ none in
    rw gone refl
filter-remove p (x ∷ xs) (suc i) e h none =
    let rest = filter-remove p xs i e h none in
    elim (cases_Bool (p x)) [
      | inl here ↦ rw here (ap (λ ys. x ∷ ys) rest)
      | inr gone ↦ rw gone rest
    ]

filter-set : (p : LogEvent → Bool) (xs : List LogEvent) (i : ℕ) (e y : LogEvent) → slice_get xs i ≡ Some e → p e ≡ false → p y ≡ false → filter p (slice_set xs i y) ≡ filter p xs
filter-set p [] i e y h old new = absurd cc
filter-set p (x ∷ xs) zero e y h old new =
    let same : e ≡ x = cc in
    let gone : p x ≡ false = ap p (sym same) ∙ old in
    rw (gone, new) refl
filter-set p (x ∷ xs) (suc i) e y h old new =
    let rest = filter-set p xs i e y h old new in
    elim (cases_Bool (p x)) [
      | inl here ↦ rw here (ap (λ ys. x ∷ ys) rest)
      | inr gone ↦ rw gone rest
    ]

abbrev in_window : ℕ → ℕ → LogEvent → Bool
in_window from to e = leb from e.time && ltb e.time to

none_pass : (xs : List LogEvent) → filter (λ (_ : LogEvent). false) xs ≡ []
none_pass xs = filter-none (λ _. false) xs (λ k d low high. refl)

-- the events up to a time, and then those after it
halves : (from to time : ℕ) (xs : List LogEvent) → IsOutside time from to → window_of from to (up_to time xs) ++ window_of from to (later_than time xs) ≡ window_of from to xs
halves from to time xs (inl before) =
    let none = filter-filter (in_window from to) (λ x. leb x.time time) (λ _. false) (λ x. grind (arith, nat_tests, before)) xs ∙ none_pass xs in
    let all = filter-filter (in_window from to) (λ x. ltb time x.time) (in_window from to) (λ x. grind (arith, nat_tests, before)) xs in
    (λ i. none i ++ all i)
halves from to time xs (inr after) =
    let all = filter-filter (in_window from to) (λ x. leb x.time time) (in_window from to) (λ x. grind (arith, nat_tests, after)) xs in
    let none = filter-filter (in_window from to) (λ x. ltb time x.time) (λ _. false) (λ x. grind (arith, nat_tests, after)) xs ∙ none_pass xs in
    (λ i. all i ++ none i) ∙ append-nil (window_of from to xs)

-- an event that is put in leaves the windows without its time, also where the others are in no order
window_with : (from to : ℕ) (e : LogEvent) (xs : List LogEvent) → IsOutside e.time from to → window_of from to (with_event e xs) ≡ window_of from to xs
window_with from to e xs outside =
    let early = up_to e.time xs in
    let late = later_than e.time xs in
    let rest : window_of from to (e ∷ late) ≡ window_of from to late = rw (passes_none from to e outside) refl in
    filter-append (in_window from to) early (e ∷ late) ∙ ap (λ ys. window_of from to early ++ ys) rest ∙ halves from to e.time xs outside

window_without : (place from to : ℕ) (log : List LogEvent) (e : LogEvent) → slice_get log place ≡ Some e → IsOutside e.time from to
    → window_of from to (without place log) ≡ window_of from to log
window_without place from to log e was outside =
    ap (window_of from to) (is_remove place log) ∙ filter-remove (in_window from to) log place e was (passes_none from to e outside)

-- a time of those that changed is outside of any that did not
outside : (from time last start end : ℕ) → from ≤ time → time ≤ last → (end ≤ from) ⊎ (last < start) → IsOutside time start end
outside from time last start end least most (inl before) = inr (omega (arith, before, least))
outside from time last start end least most (inr after) = inl (omega (arith, after, most))

-- the windows without the times of an edit are as before
pub same_outside : (edit : Edit) (log new : List LogEvent) → edited edit log ≡ Ok new
    → AreSameOutside (times_of edit log).0 (times_of edit log).1 log new
same_outside (Add time kind line byte) log new h = λ start end apart.
    let event : LogEvent = record { time = time; kind = kind; line = line; byte = byte } in
    ap (window_of start end) (sym (accepted (can_be_added event log) (with_event event log) new h).1)
    ∙ window_with start end event log (outside time time time start end (omega arith) (omega arith) apart)
same_outside (Delete place) log new h = λ start end apart.
    let was = made_parts (λ _. Ok (without place log)) (slice_get log place) new h in
    let at : time_of (slice_get log place) ≡ was.0.time = ap time_of was.1 in
    ap (window_of start end) (sym (made_is (without place log) new was.2))
    ∙ window_without place start end log was.0 was.1 (outside _ was.0.time _ start end (omega (arith, at)) (omega (arith, at)) apart)
same_outside (Set place byte) log new h = λ start end apart.
    let was = made_parts (holding place byte log) (slice_get log place) new h in
    let at : time_of (slice_get log place) ≡ was.0.time = ap time_of was.1 in
    let none = passes_none start end was.0 (outside _ was.0.time _ start end (omega (arith, at)) (omega (arith, at)) apart) in
    ap (window_of start end) (sym (accepted (leb byte (max_byte was.0.kind)) (slice_set log place (with_byte byte was.0)) new was.2).1)
    ∙ filter-set (in_window start end) log place was.0 (with_byte byte was.0) was.1 none none
same_outside (Move place time) log new h = λ start end apart.
    let taken = passed (leb time max_time) (made_of (moved_to place time log) (slice_get log place)) Range new h in
    let was = made_parts (moved_to place time log) (slice_get log place) new taken.1 in
    let at : time_of (slice_get log place) ≡ was.0.time = ap time_of was.1 in
    ap (window_of start end) (sym (made_is (with_event (at_time time was.0) (without place log)) new was.2))
    ∙ window_with start end (at_time time was.0) (without place log) (outside _ time _ start end (omega arith) (omega arith) apart)
    ∙ window_without place start end log was.0 was.1 (outside _ was.0.time _ start end (omega (arith, at)) (omega (arith, at)) apart)
same_outside (Erase from to) log new h = λ start end apart.
    ap (window_of start end) (sym (accepted (leb from to && leb to max_position) (without_times from to log) new h).1)
    ∙ window_kept from to start end log (elim apart [ inl before ↦ inl before | inr after ↦ inr (omega (arith, after)) ])
