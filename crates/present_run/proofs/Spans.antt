-- The run from reset by spans.
use Rattle.std.proofs.Common.{◌≡◌, ℕ, zero, suc, ◌≤◌, ◌==◌, None, IfSome, inl, inr, ◌+◌, ◌-◌, ◌*◌, List, Option, Some, unwrap_or, Result, Ok, Err, IfOk, MatchResult, sym, ap, ◌∙◌, subst, arith, zero-add, refl, ◌++◌, [], ◌∷◌, MatchOption}
use Rattle.std.proofs.Math.Nat.{add-mul}
use Rattle.std.proofs.Math.Path.{ap₂}
use Rattle.std.proofs.lemmas.Bool.{cases_Bool}
use Rattle.r3k_live.specs.Visits.{first_visit}
use Rattle.input_log.specs.Event.{LogEvent}
use Rattle.input_log.specs.Log.{window_of}
use Rattle.r3k_image.specs.Boot.{Boot}
use Rattle.r3k_machine.specs.Reset.{reset}
use Rattle.r3k_machine.specs.Run.{arriving, next_visit, run, state_at}
use Rattle.r3k_machine.specs.Step.{next}
use Rattle.r3k_machine.specs.Traced.{traced_at, traces_at}
use Rattle.r3k_machine.proofs.Splits.{run_own, run_split, run_within}
use Rattle.r3k_machine.specs.State.{State}
use Rattle.span_fact.specs.Span.{Span, end_of}
use Rattle.present_run.specs.Reuse.{span_of}

pub next_start : (index span : ℕ) → (index + 1) * span ≡ index * span + span
next_start index span = add-mul index 1 span ∙ ap (λ (n : ℕ). index * span + n) (let e : 1 * span ≡ span = omega arith in e)

-- a span of the run ends where the next one starts
pub ends : (pages span : ℕ) (image : Boot) (log : List LogEvent) (index : ℕ)
    → end_of pages span (span_of pages span image log index) ≡ state_at pages image log ((index + 1) * span)
ends pages span image log index =
    let from = index * span in
    let start = state_at pages image log from in
    ap (λ (to : ℕ). run pages (window_of from to log) from start span) (next_start index span)
    ∙ (run_own pages log from start span
    ∙ (ap (λ (t : ℕ). run pages log t start span) (sym (zero-add from))
    ∙ (sym (run_split pages log 0 (reset pages image) from span)
    ∙ ap (state_at pages image log) (sym (next_start index span)))))

pub at_reset : (pages : ℕ) (image : Boot) (log : List LogEvent) → state_at pages image log 0 ≡ reset pages image
unfolding run
at_reset pages image log = refl

pub some_is : {A : Type 0} (a b : A) → Some a ≡ Some b → a ≡ b
some_is a b same = ap (λ (o : Option _). unwrap_or o a) same

pub span_is : (pages span : ℕ) (image : Boot) (log : List LogEvent) (index : ℕ) (start : State) (events : List LogEvent)
    → start ≡ state_at pages image log (index * span) → events ≡ window_of (index * span) ((index + 1) * span) log
    → (let s : Span = record { index = index; start = start; events = events } in s) ≡ span_of pages span image log index
span_is pages span image log index start events start_is events_is =
    ap₂ (λ (start : State) (events : List LogEvent). let s : Span = record { index = index; start = start; events = events } in s) start_is events_is

-- a copy of a pointer
pub copied : {A E : Type 0} (P Q : A → Type 0) (X : E → Type 0) (r : Result A E) → MatchResult r P X → ((x : A) → P x → Q x) → IfOk r Q
copied P Q X (Ok x) p f = f x p
copied P Q X (Err e) p f = tt

-- what holds in either case
pub ok_all : {A E : Type 0} (r : Result A E) (X : Type 0) → X → IfOk r (λ _. X)
ok_all (Ok x) X there = there
ok_all (Err e) X there = tt

-- the value of an option that is known
pub if_some : {A : Type 0} (P : A → Type 0) (o : Option A) (x : A) → o ≡ Some x → IfSome o P → P x
if_some P o x is p = subst (λ o. IfSome o P) is p

-- going on from a position
pub gone_within : (pages : ℕ) (image : Boot) (log : List LogEvent) (time to n : ℕ) → time + n ≤ to
    → run pages (window_of time to log) time (state_at pages image log time) n ≡ state_at pages image log (time + n)
gone_within pages image log time to n within =
    let s = state_at pages image log time in
    run_within pages to log time s n within
    ∙ (ap (λ (t : ℕ). run pages log t s n) (sym (zero-add time)) ∙ sym (run_split pages log 0 (reset pages image) time n))

pub gone_on : (pages : ℕ) (image : Boot) (log : List LogEvent) (time position : ℕ) → time ≤ position
    → run pages (window_of time position log) time (state_at pages image log time) (position - time) ≡ state_at pages image log position
gone_on pages image log time position before =
    gone_within pages image log time position (position - time) (omega (arith, before))
    ∙ ap (state_at pages image log) (let e : time + (position - time) ≡ position = omega (arith, before) in e)

-- one step on
pub one_on : (pages : ℕ) (image : Boot) (log : List LogEvent) (position : ℕ)
    → next pages (arriving log position) (state_at pages image log position) ≡ state_at pages image log (position + 1)
unfolding run
one_on pages image log position =
    ap (λ (t : ℕ). next pages (arriving log t) (state_at pages image log position)) (sym (zero-add position))
    ∙ ap (state_at pages image log) (let e : suc position ≡ position + 1 = omega arith in e)

-- one step more
pub traces_more : (pages : ℕ) (image : Boot) (log : List LogEvent) (position n : ℕ)
    → traces_at pages image log position (n + 1) ≡ traces_at pages image log position n ++ traced_at pages image log (position + n) ∷ []
unfolding traces_at
traces_more pages image log position n = ap (traces_at pages image log position) (let e : n + 1 ≡ suc n = omega arith in e)

-- a visit, by its steps and by its position
abbrev pub after_time : ℕ → Option ℕ → Option ℕ
after_time time None = None
after_time time (Some steps) = Some (time + steps)

pub seen : (pages : ℕ) (image : Boot) (log : List LogEvent) (address time to k limit : ℕ) → time + (k + limit) ≤ to
    → after_time time (first_visit pages (window_of time to log) time (state_at pages image log time) address k limit)
    ≡ next_visit pages image log address (time + k) limit
unfolding first_visit next_visit
seen pages image log address time to k zero within = refl
seen pages image log address time to k (suc limit) within =
    let state = gone_within pages image log time to (suc k) (omega (arith, within)) in
    let here : time + suc k ≡ suc (time + k) = omega arith in
    let pc = ap (λ (s : State). s.core.pc) state ∙ ap (λ (t : ℕ). (state_at pages image log t).core.pc) here in
    elim (cases_Bool ((run pages (window_of time to log) time (state_at pages image log time) (suc k)).core.pc == address)) [
      | inl found ↦ rw (found, sym (ap (λ (n : ℕ). n == address) pc) ∙ found) (ap Some here)
      | inr other ↦ rw (other, sym (ap (λ (n : ℕ). n == address) pc) ∙ other)
          (seen pages image log address time to (suc k) limit (omega (arith, within)) ∙ ap (λ (t : ℕ). next_visit pages image log address t limit) here)
    ]

-- a search that goes on after another one
abbrev pub or_after : Option ℕ → Option ℕ → Option ℕ
or_after None later = later
or_after (Some found) later = Some found

pub visit_split : (pages : ℕ) (image : Boot) (log : List LogEvent) (address position m n : ℕ)
    → next_visit pages image log address position (m + n) ≡ or_after (next_visit pages image log address position m) (next_visit pages image log address (position + m) n)
unfolding next_visit
visit_split pages image log address position zero n =
    ap (next_visit pages image log address position) (let e : 0 + n ≡ n = omega arith in e)
    ∙ ap (λ (t : ℕ). next_visit pages image log address t n) (let e : position ≡ position + 0 = omega arith in e)
visit_split pages image log address position (suc m) n =
    ap (next_visit pages image log address position) (let e : suc m + n ≡ suc (m + n) = omega arith in e)
    ∙ elim (cases_Bool ((state_at pages image log (suc position)).core.pc == address)) [
      | inl found ↦ rw found refl
      | inr other ↦ rw other
          (visit_split pages image log address (suc position) m n
          ∙ ap (λ (t : ℕ). or_after (next_visit pages image log address (suc position) m) (next_visit pages image log address t n))
          (let e : suc position + m ≡ position + suc m = omega arith in e))
    ]

-- a search that is at its end
pub visit_end : (pages : ℕ) (image : Boot) (log : List LogEvent) (address last : ℕ) → next_visit pages image log address last (last - last) ≡ None
unfolding next_visit
visit_end pages image log address last = ap (next_visit pages image log address last) (let e : last - last ≡ 0 = omega arith in e)

pub match_map : {A : Type 0} {P P' : Type 0} {Q Q' : A → Type 0} (o : Option A) → (P → P') → ((x : A) → Q x → Q' x) → MatchOption o P Q → MatchOption o P' Q'
match_map None f h is = f is
match_map (Some x) f h is = h x is
