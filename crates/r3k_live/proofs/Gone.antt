-- A run goes on.
use Rattle.std.proofs.Common.{◌≡◌, ℕ, ◌+◌, ◌<◌, ◌≤◌, List, [], ◌∷◌, ◌++◌, IsFalse, slice_index, sym, ap, subst, ◌∙◌, arith, inl, inr}
use Rattle.std.proofs.lemmas.Bool.{cases_lt}
use Rattle.input_log.specs.Event.{LogEvent}
use Rattle.r3k_machine.specs.declared.step.Done.{Done}
use Rattle.r3k_machine.specs.Run.{arriving, run, trace}
use Rattle.r3k_machine.specs.State.{State}
use Rattle.r3k_machine.specs.Step.{Outcome, outcome_of_instruction, outcome_of_step}
use Rattle.r3k_machine.specs.Reports.{DifferAt}
use Rattle.r3k_machine.specs.Quiet.{outcome_elapsed, state_elapsed}
use Rattle.r3k_live.specs.Going.{AreLeft, HasGone, HasGoneFor, IsFreeFor}
use Rattle.r3k_live.specs.CodePages.{AddsCodePages}
use Rattle.r3k_live.specs.Record.{is_stored_at}
use Rattle.r3k_live.specs.Recording.{Recording, Records}
use Rattle.r3k_live.proofs.Going.{run_more, trace_more}
use Rattle.r3k_live.proofs.Recorded.{stayed}

-- one more step is made and recorded
pub one_more : (pages : ℕ) (log : List LogEvent) (from : ℕ) (start : State) (made : ℕ) (s t : State) (done : Done) (r later : Recording)
    → HasGone pages log from start made s r → outcome_of_step pages (arriving log (from + made)) s ≡ record { state = t; done = done }
    → ((steps : List Done) → Records pages steps r → Records pages (steps ++ done ∷ []) later) → DifferAt done.stored s.words t.words
    → HasGone pages log from start (made + 1) t later
one_more pages log from start made s t done r later gone step records differ =
    let here = run pages log from start made in
    let so_far = trace pages log from start made in
    let outcome = ap (outcome_of_step pages (arriving log (from + made))) (sym gone.state) ∙ step in
    let steps = ap (λ (o : Outcome). so_far ++ o.done ∷ []) (sym outcome) ∙ trace_more pages log from start made in record {
      state = ap (λ (o : Outcome). o.state) (sym outcome) ∙ run_more pages log from start made;
      recorded = subst (λ (steps : List Done). Records pages steps later) steps (records so_far gone.recorded);
      stayed =
          subst (λ (steps : List Done). (place : ℕ) → IsFalse (is_stored_at steps place) → slice_index start.words place ≡ slice_index t.words place) steps
          (stayed so_far done start.words s.words t.words differ gone.stayed);
    }

-- another recorder that holds the same steps
pub recorded_too : (pages : ℕ) (log : List LogEvent) (from : ℕ) (start : State) (made : ℕ) (s : State) (r later : Recording)
    → ((steps : List Done) → Records pages steps r → Records pages steps later) → HasGone pages log from start made s r
    → HasGone pages log from start made s later
recorded_too pages log from start made s r later records gone =
    record { state = gone.state; recorded = records (trace pages log from start made) gone.recorded; stayed = gone.stayed }

-- a quick one, whose ticks and fall of Random are still to come
pub quick_more : (pages : ℕ) (log : List LogEvent) (from : ℕ) (start : State) (before made : ℕ) (s t : State) (done : Done) (r later : Recording)
    → arriving log (from + before + made) ≡ [] → HasGone pages log from start (before + made) (state_elapsed made s) r
    → outcome_of_step pages [] (state_elapsed made s) ≡ outcome_elapsed (made + 1) (outcome_of_instruction pages s)
    → outcome_of_instruction pages s ≡ record { state = t; done = done }
    → ((steps : List Done) → Records pages steps r → Records pages (steps ++ done ∷ []) later) → DifferAt done.stored s.words t.words
    → HasGone pages log from start (before + (made + 1)) (state_elapsed (made + 1) t) later
quick_more pages log from start before made s t done r later free gone at_once ran records differ =
    let none = ap (arriving log) (let e : from + (before + made) ≡ from + before + made = omega arith in e) ∙ free in
    let step = ap (λ (events : List LogEvent). outcome_of_step pages events (state_elapsed made s)) none ∙ (at_once ∙ ap (outcome_elapsed (made + 1)) ran) in
    subst (λ (n : ℕ). HasGone pages log from start n (state_elapsed (made + 1) t) later) (let e : before + made + 1 ≡ before + (made + 1) = omega arith in e)
    (one_more pages log from start (before + made) (state_elapsed made s) (state_elapsed (made + 1) t) done r later gone step records differ)

-- fewer times from one on
pub fewer_free : (log : List LogEvent) (time since free n : ℕ) → time ≡ since → n ≤ free → IsFreeFor free log time → IsFreeFor n log since
fewer_free log time since free n is within none = λ k before. ap (λ (t : ℕ). arriving log (t + k)) (sym is) ∙ none k (omega (arith, before, within))

-- some steps, and then more, before which it does not stand at the address
pub gone_on : (pages : ℕ) (log : List LogEvent) (from : ℕ) (start : State) (address made n more : ℕ) (s t : State) (r mid later : Recording)
    → HasGoneFor pages log from start address made n r s mid → HasGoneFor pages log from start address (made + n) more mid t later
    → (0 < n → 0 < more → ¬ ((run pages log from start (made + n)).core.pc ≡ address))
    → HasGoneFor pages log from start address made (n + more) r t later
gone_on pages log from start address made n more s t r mid later first second here =
    let same : made + n + more ≡ made + (n + more) = omega arith in record {
      gone = subst (λ (k : ℕ). HasGone pages log from start k t later) same second.gone;
      passed = λ small k after within there.
          elim (cases_lt k (made + n)) [
            | inl earlier ↦ first.passed small k after earlier there
            | inr late ↦ elim (cases_lt (made + n) k) [
              | inl past ↦ second.passed small k past (omega (arith, within)) there
              | inr last ↦
                  let is : k ≡ made + n = omega (arith, late, last) in
                  here (omega (arith, after, is)) (omega (arith, within, is)) (ap (λ (n : ℕ). (run pages log from start n).core.pc) (sym is) ∙ there)
            ]
          ];
      code_pages = λ before code_pages. subst (λ (k : ℕ). AddsCodePages pages log from start k before later.code_pages) same (second.code_pages before (first.code_pages before code_pages));
    }

-- no step more
pub no_more : (pages : ℕ) (log : List LogEvent) (from : ℕ) (start : State) (address made : ℕ) (s : State) (r : Recording)
    → HasGone pages log from start made s r → HasGoneFor pages log from start address made 0 r s r
no_more pages log from start address made s r gone =
    let same : made ≡ made + 0 = omega arith in record {
      gone = subst (λ (n : ℕ). HasGone pages log from start n s r) same gone;
      passed = λ small k after below there. omega (arith, after, below);
      code_pages = λ before code_pages. subst (λ (n : ℕ). AddsCodePages pages log from start n before r.code_pages) same code_pages;
    }

-- Steps from a time on: so goes any run that is there, with the events that are left.
abbrev pub GoesFor : (pages time : ℕ) → (events : List LogEvent) → (address n : ℕ) → (s t : State) → (r later : Recording) → Type 0
GoesFor pages time events address n s t r later =
    (log : List LogEvent) (from : ℕ) (start : State) (made : ℕ) → time ≡ from + made → AreLeft time events log → HasGone pages log from start made s r
    → HasGoneFor pages log from start address made n r t later

-- none
pub goes_for_none : (pages time : ℕ) (events : List LogEvent) (address : ℕ) (s : State) (r : Recording) → GoesFor pages time events address 0 s s r r
goes_for_none pages time events address s r = λ log from start made now left gone. no_more pages log from start address made s r gone

-- and then more, from where it does not stand at the address
pub goes_for_more : (pages time : ℕ) (events : List LogEvent) (address n more : ℕ) (s t u : State) (r mid later : Recording)
    → GoesFor pages time events address n s t r mid → GoesFor pages (time + n) events address more t u mid later → ¬ (t.core.pc ≡ address)
    → GoesFor pages time events address (n + more) s u r later
goes_for_more pages time events address n more s t u r mid later first second elsewhere = λ log from start made now left gone.
    let there = first log from start made now left gone in
    gone_on pages log from start address made n more t u r mid later there
    (second log from start (made + n) (omega (arith, now)) (λ later after. left later (omega (arith, after))) there.gone)
    (λ some others here. elsewhere (ap (λ (s : State). s.core.pc) there.gone.state ∙ here))
