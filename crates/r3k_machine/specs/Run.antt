-- The run (Kane and Heinrich for a step; that steps are counted, and when an event takes effect, is own).
use Rattle.std.specs.Prelude.{ℕ, zero, suc, ◌+◌, Bool, false, ◌&&◌, ◌||◌, List, [], ◌∷◌, ◌++◌, Option, Some, None, ◌==◌, nat_le, if◌then◌else◌}
use Rattle.std.specs.List.{filter_map}
use Rattle.input_log.specs.Event.{LogEvent}
use Rattle.input_log.specs.Log.{window_of}
use Rattle.r3k_image.specs.Boot.{Boot}
use Rattle.r3k_machine.specs.declared.step.Done.{Done}
use Rattle.r3k_machine.specs.declared.target.Target.{Target}
use Rattle.r3k_machine.specs.declared.target.Target.TheVariants.{Memory, Register}
use Rattle.dz_serial.specs.declared.write.Sent.{Sent}
use Rattle.r3k_machine.specs.State.{State}
use Rattle.r3k_machine.specs.Reset.{reset}
use Rattle.r3k_machine.specs.Step.{next, report}

-- the events that take effect in the step of a time, in the order of the log
abbrev pub arriving : List LogEvent → ℕ → List LogEvent
arriving log time = window_of time (time + 1) log

-- the state after a number of steps of a machine with this many RAM pages, from a state at a time
unfoldable pub run : ℕ → List LogEvent → ℕ → State → ℕ → State
run pages log time s zero = s
run pages log time s (suc n) = next pages (arriving log (time + n)) (run pages log time s n)

-- what each of these steps reported
unfoldable pub trace : ℕ → List LogEvent → ℕ → State → ℕ → List Done
trace pages log time s zero = []
trace pages log time s (suc n) = trace pages log time s n ++ report pages (arriving log (time + n)) (run pages log time s n) ∷ []

-- the run from reset: the state at a position
abbrev pub state_at : ℕ → Boot → List LogEvent → ℕ → State
state_at pages image log position = run pages log 0 (reset pages image) position

-- its trace: what the steps before a position reported
abbrev pub trace_at : ℕ → Boot → List LogEvent → ℕ → List Done
trace_at pages image log position = trace pages log 0 (reset pages image) position

-- the byte that a step sent on a line
abbrev pub byte_on : ℕ → Option Sent → Option ℕ
byte_on line None = None
byte_on line (Some sent) = if sent.line == line then Some sent.byte else None

-- the console of a line: the bytes that the steps sent on it
abbrev pub console_of : ℕ → List Done → List ℕ
console_of line steps = filter_map (λ done. byte_on line done.sent) steps

-- a step, where it sent a byte, in front of later ones
abbrev pub with_sender : (step : ℕ) → Option ℕ → (later : List ℕ) → List ℕ
with_sender step None later = later
with_sender step (Some byte) later = step ∷ later

-- the steps that sent the bytes of the console of a line, where the first step has this number
abbrev pub senders_of : (line first : ℕ) → List Done → List ℕ
senders_of line first [] = []
senders_of line first (done ∷ steps) = with_sender first (byte_on line done.sent) (senders_of line (suc first) steps)

-- whether a step stored into a word, and whether it wrote a register: HI and LO also where it wrote both, and r0 never
abbrev pub is_stored : (address : ℕ) → Option ℕ → Bool
is_stored address None = false
is_stored address (Some stored) = stored == address

abbrev pub is_written : (number wrote : ℕ) → Bool
is_written number wrote = (nat_le 1 number && nat_le number 33) && (wrote == number || (wrote == 34 && nat_le 32 number))

abbrev pub writes : Target → Done → Bool
writes (Memory address) done = is_stored address done.stored
writes (Register number) done = is_written number done.wrote

-- a place in the second of two lists of steps, after those of the first, or else the one in the first
abbrev pub later : ℕ → Option ℕ → Option ℕ → Option ℕ
later count None earlier = earlier
later count (Some place) earlier = Some (count + place)

-- the place of the last step of which a test holds
abbrev pub last_where : (Done → Bool) → List Done → Option ℕ
last_where test [] = None
last_where test (done ∷ steps) = later 1 (last_where test steps) (if test done then Some 0 else None)

-- that of the last step that wrote a word or a register, with a change or without
abbrev pub last_writer : Target → List Done → Option ℕ
last_writer target steps = last_where (writes target) steps

-- the least position after one, at most this many steps after it, at which the PC holds an address
unfoldable pub next_visit : ℕ → Boot → List LogEvent → (address position limit : ℕ) → Option ℕ
next_visit pages image log address position zero = None
next_visit pages image log address position (suc limit) =
    if (state_at pages image log (suc position)).core.pc == address then Some (suc position)
    else next_visit pages image log address (suc position) limit
