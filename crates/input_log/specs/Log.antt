-- The log (own): a list of events in order of time. Those of equal time take effect in the order of the list.
use Rattle.std.specs.Prelude.{ℕ, List, length, filter, All, ◌<◌, ◌≤◌, ◌&&◌, nat_le, nat_lt}
use Rattle.std.specs.List.Sorted.{IsNonDecreasingBy}
use Rattle.input_log.specs.Limits.{max_events}
use Rattle.input_log.specs.Event.{LogEvent, LineExists, HoldsByte, IsInTime}

-- events in order of time
abbrev pub AreInOrder : List LogEvent → Type 0
AreInOrder events = IsNonDecreasingBy (λ event. event.time) events

-- what every log keeps: events in order of time, not more than `max_events`, each in time, on a line of its kind, with a
-- byte of its kind
pub record IsLog (events : List LogEvent) : Type 0 where
  pub in_order : AreInOrder events
  pub few : length events ≤ max_events
  pub lines_exist : All LineExists events
  pub hold_bytes : All HoldsByte events
  pub in_time : All IsInTime events

-- the events of the times from one up to another, which is left out
abbrev pub window_of : ℕ → ℕ → List LogEvent → List LogEvent
window_of from to events = filter (λ event. nat_le from event.time && nat_lt event.time to) events

-- all events are of times from one up to another, which is left out
abbrev pub AreWithin : ℕ → ℕ → List LogEvent → Type 0
AreWithin from to events = All (λ event. (from ≤ event.time) × (event.time < to)) events

-- the events of earlier times than this one
abbrev pub earlier_than : ℕ → List LogEvent → List LogEvent
earlier_than time events = filter (λ event. nat_lt event.time time) events

-- the events of later times than this one
abbrev pub later_than : ℕ → List LogEvent → List LogEvent
later_than time events = filter (λ event. nat_lt time event.time) events
