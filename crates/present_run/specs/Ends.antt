-- Where the spans of a run end (own).
use Rattle.std.specs.Prelude.{◌≡◌, ℕ, ◌+◌, ◌*◌, ◌<◌, ◌≤◌, IfSome, List, length, Option, Some, slice_get}
use Rattle.input_log.specs.Event.{LogEvent}
use Rattle.r3k_image.specs.Boot.{Boot}
use Rattle.r3k_machine.specs.State.{State}
use Rattle.r3k_machine.specs.Run.{state_at}
use Rattle.span_fact.specs.Span.{Span, end_of}
use Rattle.checkpoints.specs.Kept.{IsNear, first_at}
use Rattle.present_run.specs.Reuse.{span_from}

-- the record of this number reports what the steps of the span report
pub record IsJoined (pages span index : ℕ) (o : Option Span) (s : Span) : Type 0 where
  pub near : IsNear pages span o s.start s.events
  pub number : IfSome o (λ r. r.index ≡ index)
  pub long : IfSome o (λ r. length s.start.words ≡ length r.start.words)

-- where the first n spans of the run end
pub record AreEnds (pages span : ℕ) (image : Boot) (log : List LogEvent) (n : ℕ) (ends : List State) : Type 0 where
  pub many : n ≤ length ends
  pub each : (index : ℕ) → index < n → slice_get ends index ≡ Some (state_at pages image log ((index + 1) * span))

-- a span from this state ends there, and the record of its number reports what its steps report
pub record IsJoinedFrom (pages span : ℕ) (log : List LogEvent) (index : ℕ) (o : Option Span) (start end : State) : Type 0 where
  pub ends : end ≡ end_of pages span (span_from span log index start)
  pub joined : IsJoined pages span index o (span_from span log index start)

-- the next span goes on from where this one ended, if both ends are there
abbrev pub GoesOn : (pages span : ℕ) → List LogEvent → List (List Span) → List State → ℕ → Type 0
GoesOn pages span log spans ends index = (start end : State) → slice_get ends index ≡ Some start → slice_get ends (index + 1) ≡ Some end
    → IsJoinedFrom pages span log (index + 1) (first_at spans (index + 1)) start end
