-- One more step of a run from a state.
use Rattle.std.proofs.Common.{◌≡◌, ℕ, zero, suc, ◌+◌, ◌-◌, ◌<◌, ◌≤◌, sym, leb, ltb, ◌&&◌, List, [], ◌∷◌, ◌++◌, Some, ap, ◌∙◌, arith, ◌==◌, inl, inr}
use Rattle.std.proofs.lemmas.Bool.{eq-eqb, eqb-true, cases_Bool}
use Rattle.std.proofs.lemmas.Bool.Decides.{nat_tests}
use Rattle.input_log.specs.Event.{LogEvent}
use Rattle.input_log.specs.Log.{later_than, window_of}
use Rattle.input_log.proofs.Filter.{filter-filter}
use Rattle.r3k_machine.specs.Run.{arriving, run, trace}
use Rattle.r3k_machine.specs.State.{State}
use Rattle.r3k_machine.specs.Step.{next, report}
use Rattle.r3k_live.specs.Going.{PassesBy}
use Rattle.r3k_live.specs.Visits.{first_visit}

-- the events of later times are left
pub left_later : (past time : ℕ) (events : List LogEvent) → past < time → window_of time (time + 1) (later_than past events) ≡ window_of time (time + 1) events
left_later past time events later =
    filter-filter (λ e. leb time e.time && ltb e.time (time + 1)) (λ e. ltb past e.time) (λ e. leb time e.time && ltb e.time (time + 1))
    (λ e. grind (arith, nat_tests)) events

pub run_more : (pages : ℕ) (log : List LogEvent) (time : ℕ) (s : State) (made : ℕ)
    → next pages (arriving log (time + made)) (run pages log time s made) ≡ run pages log time s (made + 1)
unfolding run
run_more pages log time s made = ap (run pages log time s) (let e : suc made ≡ made + 1 = omega arith in e)

pub trace_more : (pages : ℕ) (log : List LogEvent) (time : ℕ) (s : State) (made : ℕ)
    → trace pages log time s made ++ report pages (arriving log (time + made)) (run pages log time s made) ∷ [] ≡ trace pages log time s (made + 1)
unfolding trace
trace_more pages log time s made = ap (trace pages log time s) (let e : suc made ≡ made + 1 = omega arith in e)

one_less : (made steps : ℕ) → made < steps → steps - made ≡ suc (steps - (made + 1))
one_less made steps before = omega (arith, before)

visit_here : (pages : ℕ) (log : List LogEvent) (time : ℕ) (s : State) (stop made steps : ℕ) → made < steps
    → (run pages log time s (made + 1)).core.pc ≡ stop → first_visit pages log time s stop made (steps - made) ≡ Some (made + 1)
unfolding first_visit
visit_here pages log time s stop made steps before here =
    ap (first_visit pages log time s stop made) (one_less made steps before)
    ∙ rw (eq-eqb (run pages log time s (suc made)).core.pc stop (ap (λ (n : ℕ). (run pages log time s n).core.pc) (let e : suc made ≡ made + 1 = omega arith in e) ∙ here))
    (ap Some (let e : suc made ≡ made + 1 = omega arith in e))

visit_on : (pages : ℕ) (log : List LogEvent) (time : ℕ) (s : State) (stop made steps : ℕ) → made < steps
    → ¬ ((run pages log time s (made + 1)).core.pc ≡ stop)
    → first_visit pages log time s stop made (steps - made) ≡ first_visit pages log time s stop (made + 1) (steps - (made + 1))
unfolding first_visit
visit_on pages log time s stop made steps before other =
    ap (first_visit pages log time s stop made) (one_less made steps before)
    ∙ elim (cases_Bool ((run pages log time s (suc made)).core.pc == stop)) [
      | inl here ↦ absurd (other (ap (λ (n : ℕ). (run pages log time s n).core.pc) (let e : made + 1 ≡ suc made = omega arith in e) ∙ eqb-true (run pages log time s (suc made)).core.pc stop here))
      | inr apart ↦ rw apart (ap (λ (n : ℕ). first_visit pages log time s stop n (steps - (made + 1))) (let e : suc made ≡ made + 1 = omega arith in e))
    ]

-- steps of which none came to the address
passes_visit : (pages : ℕ) (log : List LogEvent) (time : ℕ) (s : State) (stop made n steps : ℕ) → made + n ≤ steps
    → ((k : ℕ) → made < k → k ≤ made + n → ¬ ((run pages log time s k).core.pc ≡ stop))
    → first_visit pages log time s stop made (steps - made) ≡ first_visit pages log time s stop (made + n) (steps - (made + n))
passes_visit pages log time s stop made zero steps within passed =
    ap (λ (n : ℕ). first_visit pages log time s stop n (steps - n)) (let e : made ≡ made + 0 = omega arith in e)
passes_visit pages log time s stop made (suc n) steps within passed =
    passes_visit pages log time s stop made n steps (omega arith) (λ k after here. passed k after (omega (arith, here)))
    ∙ (visit_on pages log time s stop (made + n) steps (omega arith) (passed (made + n + 1) (omega arith) (omega arith))
    ∙ ap (λ (n : ℕ). first_visit pages log time s stop n (steps - n)) (let e : made + n + 1 ≡ made + suc n = omega arith in e))

pub visits_here : (pages : ℕ) (log : List LogEvent) (time : ℕ) (s : State) (stop made n steps : ℕ) → 0 < n → made + n ≤ steps
    → PassesBy pages log time s stop made (made + n) → (run pages log time s (made + n)).core.pc ≡ stop
    → first_visit pages log time s stop made (steps - made) ≡ Some (made + n)
visits_here pages log time s stop made n steps some within passed here =
    let last : made + (n - 1) + 1 ≡ made + n = omega arith in
    passes_visit pages log time s stop made (n - 1) steps (omega arith) (λ k after before. passed k after (omega (arith, before, some)))
    ∙ (visit_here pages log time s stop (made + (n - 1)) steps (omega arith) (ap (λ (k : ℕ). (run pages log time s k).core.pc) last ∙ here)
    ∙ ap Some last)

pub visits_on : (pages : ℕ) (log : List LogEvent) (time : ℕ) (s : State) (stop made n steps : ℕ) → 0 < n → made + n ≤ steps
    → PassesBy pages log time s stop made (made + n) → ¬ ((run pages log time s (made + n)).core.pc ≡ stop)
    → first_visit pages log time s stop made (steps - made) ≡ first_visit pages log time s stop (made + n) (steps - (made + n))
visits_on pages log time s stop made n steps some within passed other =
    let last : made + (n - 1) + 1 ≡ made + n = omega arith in
    passes_visit pages log time s stop made (n - 1) steps (omega arith) (λ k after before. passed k after (omega (arith, before, some)))
    ∙ (visit_on pages log time s stop (made + (n - 1)) steps (omega arith) (λ here. other (ap (λ (k : ℕ). (run pages log time s k).core.pc) (sym last) ∙ here))
    ∙ ap (λ (k : ℕ). first_visit pages log time s stop k (steps - k)) last)
