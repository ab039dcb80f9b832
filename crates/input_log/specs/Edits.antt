-- The edits of a log (own): an event is added, deleted, given another byte, or moved to another time, and those of a range
-- of times are erased.
use Rattle.std.specs.Prelude.{◌≡◌, ℕ, ◌+◌, ◌++◌, ◌∷◌, ◌<◌, ◌≤◌, ◌⊎◌, Bool, true, false, List, length, take, drop, filter, min, max, slice_get, slice_set, Option, Some, None, Result, Ok, Err, not, ◌&&◌, if◌then◌else◌, nat_le, nat_lt}
use Rattle.input_log.specs.Limits.{max_events, max_position, max_time}
use Rattle.input_log.specs.Event.{LogEvent, max_line, max_byte}
use Rattle.input_log.specs.Log.{later_than, window_of}
use Rattle.input_log.specs.declared.edit.Edit.{Edit}
use Rattle.input_log.specs.declared.edit.Edit.TheVariants.{Add, Delete, Set, Move, Erase}
use Rattle.refusal.specs.Given.{GivesFault}
use Rattle.refusal.specs.declared.fault.Fault.{Fault}
use Rattle.refusal.specs.declared.fault.Fault.TheVariants.{Range, NoEvent}

-- the events of this time and of earlier ones
abbrev pub up_to : ℕ → List LogEvent → List LogEvent
up_to time events = filter (λ event. nat_le event.time time) events

-- a log with one more event: it stands after all events of its time or an earlier one
abbrev pub with_event : LogEvent → List LogEvent → List LogEvent
with_event event events = up_to event.time events ++ event ∷ later_than event.time events

-- a log without the event at a place
abbrev pub without : (place : ℕ) → List LogEvent → List LogEvent
without place events = take place events ++ drop (place + 1) events

-- an event with another byte, and one at another time
abbrev pub with_byte : ℕ → LogEvent → LogEvent
with_byte byte event = record event { byte = byte }

abbrev pub at_time : ℕ → LogEvent → LogEvent
at_time time event = record event { time = time }

-- what is made of an event of the log, or `NoEvent` if there is no such event
abbrev pub made_of : (LogEvent → Result (List LogEvent) Fault) → Option LogEvent → Result (List LogEvent) Fault
made_of make (Some event) = make event
made_of make None = Err NoEvent

-- an event is added, unless its kind or its time forbids it, or the log is full: then it is `Range`
abbrev pub adding : LogEvent → List LogEvent → Result (List LogEvent) Fault
adding event events =
    if nat_le event.line (max_line event.kind) && (nat_le event.byte (max_byte event.kind)
    && (nat_le event.time max_time && nat_lt (length events) max_events))
    then Ok (with_event event events)
    else Err Range

-- the event at a place is deleted
abbrev pub deleting : (place : ℕ) → List LogEvent → Result (List LogEvent) Fault
deleting place events = made_of (λ _. Ok (without place events)) (slice_get events place)

-- the event at a place gets another byte, unless its kind forbids it: then it is `Range`
abbrev pub setting : (place byte : ℕ) → List LogEvent → Result (List LogEvent) Fault
setting place byte events =
    made_of (λ event. if nat_le byte (max_byte event.kind) then Ok (slice_set events place (with_byte byte event)) else Err Range)
    (slice_get events place)

-- the event at a place is deleted, and added again at another time. A time that is too great is `Range`, before `NoEvent`.
abbrev pub moving : (place time : ℕ) → List LogEvent → Result (List LogEvent) Fault
moving place time events =
    if nat_le time max_time
    then made_of (λ event. Ok (with_event (at_time time event) (without place events))) (slice_get events place)
    else Err Range

-- a log without the events of the times from one up to another, which is left out
abbrev pub without_times : (from to : ℕ) → List LogEvent → List LogEvent
without_times from to events = filter (λ event. not (nat_le from event.time && nat_lt event.time to)) events

-- The events of the times from one up to another, which is left out, are erased. It is `Range` if the first of the two is
-- above the second, or the second above the greatest position.
abbrev pub erasing : (from to : ℕ) → List LogEvent → Result (List LogEvent) Fault
erasing from to events = if nat_le from to && nat_le to max_position then Ok (without_times from to events) else Err Range

-- a time is none of those from one up to another, which is left out
abbrev pub IsOutside : (time from to : ℕ) → Type 0
IsOutside time from to = (time < from) ⊎ (to ≤ time)

-- what an edit makes of a log
abbrev pub edited : Edit → List LogEvent → Result (List LogEvent) Fault
edited (Add time kind line byte) events = adding (record { time = time; kind = kind; line = line; byte = byte }) events
edited (Delete place) events = deleting place events
edited (Set place byte) events = setting place byte events
edited (Move place time) events = moving place time events
edited (Erase from to) events = erasing from to events

-- the place after an edit of the event that it adds, sets or moves
abbrev pub event_place : Edit → List LogEvent → Option ℕ
event_place (Add time kind line byte) events = Some (length (up_to time events))
event_place (Delete place) events = None
event_place (Set place byte) events = Some place
event_place (Move place time) events = Some (length (up_to time (without place events)))
event_place (Erase from to) events = None

-- the time of an event that may be there, and 0 of none
abbrev pub time_of : Option LogEvent → ℕ
time_of (Some event) = event.time
time_of None = 0

-- the first and the last time that an edit may change
abbrev pub times_of : Edit → List LogEvent → ℕ × ℕ
times_of (Add time kind line byte) events = (time, time)
times_of (Delete place) events = (time_of (slice_get events place), time_of (slice_get events place))
times_of (Set place byte) events = (time_of (slice_get events place), time_of (slice_get events place))
times_of (Move place time) events = (min (time_of (slice_get events place)) time, max (time_of (slice_get events place)) time)
times_of (Erase from to) events = (from, to)

-- two logs have the same events before one time and after another one
abbrev pub AreSameOutside : (from last : ℕ) → (a b : List LogEvent) → Type 0
AreSameOutside from last a b = (start end : ℕ) → (end ≤ from) ⊎ (last < start) → window_of start end b ≡ window_of start end a

-- the edits that take memory
abbrev pub takes_memory : Edit → Bool
takes_memory (Add time kind line byte) = true
takes_memory (Delete place) = false
takes_memory (Set place byte) = false
takes_memory (Move place time) = false
takes_memory (Erase from to) = false

-- why an edit is refused whose plain answer is this one
abbrev pub IsRefused : {V : Type 0} → (takes_memory : Bool) → Result V Fault → Fault → Type 0
IsRefused true plain fault = GivesFault plain fault
IsRefused false plain fault = plain ≡ Err fault

-- A value after an edit, and what the call gave, where the plain edit leads to this value or is refused. What is refused
-- changes nothing.
abbrev pub ChangesBy : {V A : Type 0} → Edit → Result V Fault → (old new : V) → Result A Fault → Type 0
ChangesBy edit plain old new (Ok answer) = plain ≡ Ok new
ChangesBy edit plain old new (Err fault) = (new ≡ old) × IsRefused (takes_memory edit) plain fault
