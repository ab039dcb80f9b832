-- What a timeline holds, and what its queries and edits do with that (own).
use Rattle.std.specs.Prelude.{◌≡◌, ◌⊎◌, ℕ, ◌+◌, ◌/◌, ◌%◌, ◌<◌, ◌≤◌, List, [], ◌∷◌, take, Contains, Result, Ok, Err, IfOk, OnErr, nat_eq}
use Rattle.std.specs.Set.{remove_key}
use Rattle.input_log.specs.Event.{LogEvent}
use Rattle.input_log.specs.Limits.{max_position}
use Rattle.r3k_image.specs.Boot.{Boot}
use Rattle.span_fact.specs.Span.{Span}
use Rattle.refusal.specs.declared.fault.Fault.{Fault}
use Rattle.refusal.specs.declared.fault.Fault.TheVariants.{Memory, NotFound}
use Rattle.present_run.specs.History.{History}
use Rattle.present_run.specs.Reuse.{Holding, Reaches, Spends}

-- what a timeline holds: what is held of runs, and the positions of the states that it keeps, the one used last first
pub record TimelineView : Type 0 where
  pub history : History
  pub rows : List (List Span)
  pub pasts : ℕ
  pub steps : ℕ
  pub recent_states : List ℕ

abbrev pub holding : TimelineView → Holding
holding h = record { history = h.history; rows = h.rows; pasts = h.pasts; steps = h.steps }

-- What a query at a position does, whether it answers or is refused. It may look at most `beyond` steps beyond it. Want of memory
-- may cut it short. Any other refusal, except that nothing is found, comes before a step is run.
abbrev pub AsksFault : (pages span position beyond : ℕ) → (old new : TimelineView) → Fault → Type 0
AsksFault pages span position beyond old new Memory = Spends pages span (position / span) (position % span + beyond) (holding old) (holding new)
AsksFault pages span position beyond old new NotFound =
    Spends pages span (position / span) (position % span + beyond) (holding old) (holding new) × Reaches pages span (position / span) (holding old) (holding new)
AsksFault pages span position beyond old new fault = new ≡ old

abbrev pub Asks : {A : Type 0} → (pages span position beyond : ℕ) → (old new : TimelineView) → Result A Fault → Type 0
Asks pages span position beyond old new (Ok answer) =
    Spends pages span (position / span) (position % span + beyond) (holding old) (holding new) × Reaches pages span (position / span) (holding old) (holding new)
Asks pages span position beyond old new (Err fault) = AsksFault pages span position beyond old new fault

-- What a query of the steps from a position on does. At the last position no step is left, so that nothing is run.
abbrev pub AsksOn : {A : Type 0} → (pages span position beyond : ℕ) → (old new : TimelineView) → Result A Fault → Type 0
AsksOn pages span position beyond old new result =
    (position < max_position → Asks pages span position beyond old new result) × (max_position ≤ position → new ≡ old)

-- What a query of the state at a position does with the kept states. Where one is kept at the position, no step is run, and it
-- becomes the first. Elsewhere the state comes to be kept, at most 8 with it, unless a span starts at the position or memory for it
-- is refused. A query that is refused leaves them.
pub record KeepsState {A E : Type 0} (span position : ℕ) (old new : TimelineView) (result : Result A E) : Type 0 where
  pub free : Contains old.recent_states position → new.steps ≡ old.steps
  pub again : Contains old.recent_states position → IfOk result (λ _. new.recent_states ≡ position ∷ remove_key (nat_eq position) old.recent_states)
  pub first : ¬ Contains old.recent_states position → IfOk result (λ _. (new.recent_states ≡ take 8 (position ∷ old.recent_states)) ⊎ (new.recent_states ≡ old.recent_states))
  pub start : position % span ≡ 0 → new.recent_states ≡ old.recent_states
  pub refused : OnErr result (new.recent_states ≡ old.recent_states)

-- what is held with the log, or the image, that an edit leaves: the records stay, and no state is kept
abbrev pub with_log : TimelineView → Result (List LogEvent) Fault → Result TimelineView Fault
with_log h (Ok log) = Ok (record { history = record { image = h.history.image; log = log }; rows = h.rows; pasts = h.pasts; steps = h.steps; recent_states = [] })
with_log h (Err fault) = Err fault

abbrev pub with_image : TimelineView → Result Boot Fault → Result TimelineView Fault
with_image h (Ok image) = Ok (record { history = record { image = image; log = h.history.log }; rows = h.rows; pasts = h.pasts; steps = h.steps; recent_states = [] })
with_image h (Err fault) = Err fault
