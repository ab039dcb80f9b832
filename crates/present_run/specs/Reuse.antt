-- What is kept of runs, and what a query of the present run costs (own).
use Rattle.std.specs.Prelude.{◌≡◌, ◌⊎◌, ℕ, zero, suc, ◌+◌, ◌-◌, ◌*◌, ◌<◌, ◌≤◌, List, ◌∷◌, Option, slice_get, take}
use Rattle.input_log.specs.Event.{LogEvent}
use Rattle.input_log.specs.Log.{window_of}
use Rattle.r3k_image.specs.Boot.{Boot}
use Rattle.r3k_machine.specs.State.{State}
use Rattle.r3k_machine.specs.Run.{state_at}
use Rattle.r3k_live.specs.Living.{counted}
use Rattle.span_fact.specs.Span.{Span}
use Rattle.checkpoints.specs.Kept.{AreFar, IsNear, promoted, row_at}
use Rattle.present_run.specs.History.{History}

-- What a timeline holds of runs: its history; by number the records of spans that it keeps, the one that was used last first; how many
-- records of a number it keeps at most, which is of how many pasts; and how many steps it has run.
pub record Holding : Type 0 where
  pub history : History
  pub rows : List (List Span)
  pub pasts : ℕ
  pub steps : ℕ

-- the span of a number from a state, and that of the run from reset
abbrev pub span_from : (span : ℕ) → List LogEvent → ℕ → State → Span
span_from span log index start = record { index = index; start = start; events = window_of (index * span) ((index + 1) * span) log }

abbrev pub span_of : (pages span : ℕ) → Boot → List LogEvent → ℕ → Span
span_of pages span image log index = span_from span log index (state_at pages image log (index * span))

-- the records of a number
abbrev pub kept_at : Holding → ℕ → List Span
kept_at h index = row_at h.rows index

-- A record serves for a history at a number: it applies or nearly applies. So its events are those of the log, and its start differs from
-- the state of the run from reset only in words of pages that it does not touch.
abbrev pub IsServing : (pages span : ℕ) → History → (index : ℕ) → Option Span → Type 0
IsServing pages span h index o =
    let s : Span = span_of pages span h.image h.log index in
    IsNear pages span o s.start s.events

-- one of some records serves: not each of them is far
abbrev pub HasServing : (pages span : ℕ) → History → (index : ℕ) → List Span → Type 0
HasServing pages span h index row =
    let s : Span = span_of pages span h.image h.log index in
    ¬ AreFar pages span row s.start s.events

abbrev pub Serves : (pages span : ℕ) → Holding → ℕ → Type 0
Serves pages span h index = HasServing pages span h.history index (kept_at h index)

-- the record of a number that was used last serves
abbrev pub ServesFirst : (pages span : ℕ) → Holding → ℕ → Type 0
ServesFirst pages span h index = IsServing pages span h.history index (slice_get (kept_at h index) 0)

-- of the first `count` spans, `lacking` have no record that serves
unfoldable pub Lacks : (pages span : ℕ) → Holding → (count lacking : ℕ) → Type 0
Lacks pages span h zero lacking = lacking ≡ 0
Lacks pages span h (suc index) lacking =
    (Serves pages span h index × Lacks pages span h index lacking)
    ⊎ ((¬ Serves pages span h index) × (0 < lacking) × Lacks pages span h index (lacking - 1))

-- What queries make of the records of a number: they stay; or one of them that serves comes first, as it was used; or, where none
-- serves, the record of the run's span comes first, and of as many as there may be the one used least recently is dropped.
pub data Turns (pages span : ℕ) (h : Holding) (index : ℕ) : List Span → Type 0 where
  stay : (row : List Span) → row ≡ kept_at h index → Turns pages span h index row
  use_one : (before row : List Span) → Turns pages span h index before → (place : ℕ) → IsServing pages span h.history index (slice_get before place)
      → row ≡ promoted place before → Turns pages span h index row
  put_one : (before row : List Span) → Turns pages span h index before → ¬ HasServing pages span h.history index before
      → row ≡ span_of pages span h.history.image h.history.log index ∷ take (h.pasts - 1) before → Turns pages span h index row

-- What a query does that needs the first `count` spans, and then at most `more` steps. It runs a span only where no record serves. The
-- history stays, and all steps that were run are counted.
pub record Spends (pages span count more : ℕ) (old new : Holding) : Type 0 where
  pub history : new.history ≡ old.history
  pub pasts : new.pasts ≡ old.pasts
  pub grows : old.steps ≤ new.steps
  pub most : (lacking : ℕ) → Lacks pages span old count lacking → new.steps ≤ old.steps + (lacking * span + more)
  pub turns : (index : ℕ) → Turns pages span old index (kept_at new index)

-- What a query has done where it answers: each span that lacked a record was run, and the records that it went along come first.
pub record Reaches (pages span count : ℕ) (old new : Holding) : Type 0 where
  pub least : (lacking : ℕ) → Lacks pages span old count lacking → counted old.steps (lacking * span) ≤ new.steps
  pub there : (index : ℕ) → index < count → ServesFirst pages span new index
