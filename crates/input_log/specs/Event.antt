-- An event of the log (own): what comes from outside, and in which step.
use Rattle.std.specs.Prelude.{ℕ, ◌≤◌}
use Rattle.input_log.specs.declared.event.Kind.{Kind}
use Rattle.input_log.specs.declared.event.Kind.TheVariants.{Byte, Framing, Wire}
use Rattle.input_log.specs.Limits.{max_time}

-- A byte, or a framing error with its byte, arrives at a serial line. An external line, here a wire, gets the level that
-- is the event's byte.
pub record LogEvent : Type 0 where
  pub time : ℕ
  pub kind : Kind
  pub line : ℕ
  pub byte : ℕ

-- the serial part has four lines (KN02 system module), and the board three external ones (own)
abbrev pub max_line : Kind → ℕ
max_line Byte = 3
max_line Framing = 3
max_line Wire = 2

-- a serial line takes any byte, and a wire the levels 0 and 1
abbrev pub max_byte : Kind → ℕ
max_byte Byte = 255
max_byte Framing = 255
max_byte Wire = 1

-- the line of an event is one of its kind
abbrev pub LineExists : LogEvent → Type 0
LineExists event = event.line ≤ max_line event.kind

-- the byte of an event is one of its kind
abbrev pub HoldsByte : LogEvent → Type 0
HoldsByte event = event.byte ≤ max_byte event.kind

-- an event is in a step that a run can have
abbrev pub IsInTime : LogEvent → Type 0
IsInTime event = event.time ≤ max_time
