-- The present run of a history, as it is kept (own).
use Rattle.std.specs.Prelude.{◌≡◌, ℕ, ◌+◌, ◌-◌, ◌*◌, ◌/◌, ◌%◌, ◌<◌, ◌≤◌, IfSome, IsTrue, List, Contains, Option, Some, None}
use Rattle.std.specs.Coded.{Coded-set, codes}
use Rattle.std.proofs.Props.{props}
use Rattle.input_log.specs.Event.{LogEvent}
use Rattle.r3k_image.specs.Boot.{Boot}
use Rattle.r3k_machine.specs.Reset.{reset}
use Rattle.r3k_machine.specs.declared.step.Done.{Done}
use Rattle.r3k_machine.specs.Run.{state_at, trace}
use Rattle.r3k_pages.specs.Pages.{SameOutside}
use Rattle.r3k_machine.specs.State.{State}
use Rattle.span_fact.specs.Span.{Span, end_of}
use Rattle.checkpoints.specs.Kept.{IsNear, first_at}
use Rattle.r3k_live.specs.Recording.{Records}
use Rattle.present_run.specs.Index.{Agrees}
use Rattle.present_run.specs.Ends.{AreEnds, GoesOn, IsJoined}
use Rattle.present_run.specs.History.{History, event_code}
use Rattle.present_run.specs.Reuse.{Holding, span_of}
use Rattle.present_run.specs.Sizes.{AreSizes}
use Rattle.present_run.specs.declared.frontier.Frontier.{Frontier}
use Rattle.present_run.specs.declared.machine.Machine.{Machine}
use Rattle.present_run.specs.declared.records.SpanRecords.{SpanRecords}
use Rattle.present_run.specs.declared.runs.Runs.{Runs}

-- what the steps from one position up to another report
abbrev pub steps_between : (pages : ℕ) → Boot → List LogEvent → (from to : ℕ) → List Done
steps_between pages image log from to = trace pages log from (state_at pages image log from) (to - from)

-- outside a set of pages a span ends with the words of a state
abbrev pub EndsNear : (pages span : ℕ) → Option Span → List ℕ → State → Type 0
EndsNear pages span None set here = ⊥
EndsNear pages span (Some s) set here = SameOutside set (end_of pages span s).words here.words

-- there is a span, and it ends in a state
abbrev pub EndsAt : (pages span : ℕ) → Option Span → State → Type 0
EndsAt pages span None state = ⊥
EndsAt pages span (Some s) state = end_of pages span s ≡ state

-- What is known after the first record of a number: outside the differing pages the run stands as it ends. `exact` may say that it stands
-- just there.
pub record IsKnownAfter {pages : ℕ} (span : ℕ) (rows : List (List Span)) (index : ℕ) (here : State) (f : Frontier pages) : Type 0 where
  pub near : EndsNear pages span (first_at rows index) f.differing here
  pub exact : IsTrue f.exact → EndsAt pages span (first_at rows index) here

-- the same of the record after which something is known, by where each span starts
abbrev pub IsKnown : {pages : ℕ} (span : ℕ) → List (List Span) → (starts : ℕ → State) → Frontier pages → Type 0
IsKnown span rows starts f = IfSome f.after (λ index. IsKnownAfter span rows index (starts (index + 1)) f)

-- The machine is in the run from reset: where it stands, and what its recorder holds.
pub record IsRunning {pages span : ℕ} (image : Boot) (log : List LogEvent) (machine : Machine pages span) : Type 0 where
  pub stands : IfSome machine.at (λ position. machine.live.state ≡ state_at pages image log position)
  pub recorded : IfSome machine.recorded (λ position. Records pages (steps_between pages image log (position / span * span) position) machine.recorder)

-- What is kept of spans is of the run from reset: the start, the joined records, the ends of their spans, and what is known where one
-- starts. The index has what the first records report. After these ends come those of an earlier run: from `rejoin_from` on, each span
-- goes on from where the one before it ended.
pub record AreRecords {pages span : ℕ} (image : Boot) (log : List LogEvent) (records : SpanRecords pages span) : Type 0 where
  pub sizes : AreSizes pages span
  pub start : records.reset.value ≡ reset pages image
  pub joined : (index : ℕ) → index < records.kept.valid → IsJoined pages span index (first_at records.kept.rows index) (span_of pages span image log index)
  pub ends : AreEnds pages span image log records.kept.valid records.kept.ends
  pub rejoin_from : (index : ℕ) → records.rejoin_from ≤ index → records.kept.valid ≤ index →
      GoesOn pages span log records.kept.rows records.kept.ends index
  pub known : IsKnown span records.kept.rows (λ index. state_at pages image log (index * span)) records.frontier
  pub agrees : Agrees pages span records.reports records.kept.rows

-- both are of one run
pub record BelongTo {pages span : ℕ} (image : Boot) (log : List LogEvent) (runs : Runs pages span) : Type 0 where
  pub machine : IsRunning image log runs.machine
  pub records : AreRecords image log runs.records

-- what is held with a history
abbrev pub held : {pages span : ℕ} → Boot → List LogEvent → Runs pages span → Holding
held image log runs = record {
  history = record { image = image; log = log };
  rows = runs.records.kept.rows;
  pasts = runs.records.kept.most;
  steps = runs.machine.live.steps;
}

-- A state that is kept is that of the run at its position, inside a span. All spans before that one are joined.
pub record IsRecentState (pages span : ℕ) (h : History) (valid position : ℕ) (state : State) : Type 0 where
  pub is : state ≡ state_at pages h.image h.log position
  pub inside : ¬ (position % span ≡ 0)
  pub joined : position / span ≤ valid

-- each of these states is kept at its position
abbrev pub AreRecentStates : (pages span : ℕ) → History → (valid : ℕ) → List (ℕ × State) → Type 0
AreRecentStates pages span h valid states = (e : ℕ × State) → Contains states e → IsRecentState pages span h valid e.0 e.1

-- each of these facts has one proof at most
state_set : IsSet State
state_set = Coded-set (hlevel codes)

span_set : IsSet Span
span_set = Coded-set (hlevel (event_code, codes))

near_prop : (pages span : ℕ) (o : Option Span) (start : State) (events : List LogEvent) → IsProp (IsNear pages span o start events)
near_prop pages span None start events = hlevel props
near_prop pages span (Some s) start events = hlevel (state_set, event_code, codes, props)

known_prop : (pages span : ℕ) (o : Option Span) (set : List ℕ) (state : State) → IsProp (EndsNear pages span o set state)
known_prop pages span None set state = hlevel props
known_prop pages span (Some s) set state = hlevel props

ends_prop : (pages span : ℕ) (o : Option Span) (state : State) → IsProp (EndsAt pages span o state)
ends_prop pages span None state = hlevel props
ends_prop pages span (Some s) state = hlevel (state_set, props)

pub BelongTo-prop : {pages span : ℕ} (image : Boot) (log : List LogEvent) (runs : Runs pages span) → IsProp (BelongTo image log runs)
BelongTo-prop {pages} {span} image log runs = hlevel (near_prop, known_prop, ends_prop, state_set, span_set, props)

pub AreRecentStates-prop : (pages span : ℕ) (h : History) (valid : ℕ) (states : List (ℕ × State)) → IsProp (AreRecentStates pages span h valid states)
AreRecentStates-prop pages span h valid states = hlevel (state_set, props)
