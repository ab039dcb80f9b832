-- A span of a run (own): `span` steps from a state, with the events of their times. All else follows from these.
use Rattle.std.specs.Prelude.{◌≡◌, ◌↔◌, ℕ, ◌+◌, ◌*◌, IsTrue, List}
use Rattle.std.specs.List.Sorted.{IsStrictlyIncreasing}
use Rattle.input_log.specs.Event.{LogEvent}
use Rattle.input_log.specs.Log.{AreInOrder, AreWithin}
use Rattle.r3k_machine.specs.State.{State}
use Rattle.r3k_machine.specs.Run.{run, trace}
use Rattle.r3k_machine.specs.declared.step.Done.{Done}
use Rattle.r3k_pages.specs.Pages.{SameOutside, holds}
use Rattle.r3k_live.specs.Marks.{marks_of}
use Rattle.r3k_live.specs.Record.{AreDestinations, AreWriters, dirty_pages, sent_from, touched_pages}
use Rattle.r3k_live.specs.CodePages.{RunsIn}
use Rattle.r3k_live.specs.declared.recorder.SentAt.{SentAt}
use Rattle.r3k_live.specs.declared.recorder.Written.{Written}

pub record Span : Type 0 where
  pub index : ℕ
  pub start : State
  pub events : List LogEvent

-- where it ends, and what its steps report
abbrev pub end_of : (pages span : ℕ) → Span → State
end_of pages span s = run pages s.events (s.index * span) s.start span

abbrev pub steps_of : (pages span : ℕ) → Span → List Done
steps_of pages span s = trace pages s.events (s.index * span) s.start span

-- the PC is in a virtual page where the span starts, or after one of its steps
abbrev pub SpanRunsIn : (pages span : ℕ) → Span → ℕ → Type 0
SpanRunsIn pages span s page = RunsIn pages s.events (s.index * span) s.start span page

-- what a record of a span reports is so
pub record Holds (pages span : ℕ) (s : Span) (end : State) (writers : List Written) (destinations : List ℕ) (sent : List SentAt) (dirty marks touched code_pages : List ℕ) : Type 0 where
  pub in_order : AreInOrder s.events
  pub within : AreWithin (s.index * span) ((s.index + 1) * span) s.events
  pub ends : end ≡ end_of pages span s
  pub written : AreWriters pages (steps_of pages span s) writers
  pub destined : AreDestinations (steps_of pages span s) destinations
  pub report : sent ≡ sent_from 0 (steps_of pages span s)
  pub stored : dirty ≡ dirty_pages pages (steps_of pages span s)
  pub marked : marks ≡ marks_of pages (steps_of pages span s)
  pub ascending : IsStrictlyIncreasing marks
  pub stayed : SameOutside dirty s.start.words end.words
  pub seen : touched ≡ touched_pages pages (steps_of pages span s)
  pub stands : (page : ℕ) → IsTrue (holds code_pages page) ↔ SpanRunsIn pages span s page
