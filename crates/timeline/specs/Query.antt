-- The plain answers of queries on a history (own). A query refuses in a fixed order: a number out of its range, an address of
-- no word, a position that is too far.
use Rattle.std.specs.Prelude.{ℕ, ◌+◌, ◌-◌, ◌%◌, Bool, min, ◌==◌, ◌&&◌, List, slice_get, slice_index, Option, Some, None, Result, Ok, Err, if◌then◌else◌, nat_le}
use Rattle.std.specs.Option.{ok_or}
use Rattle.std.specs.FinMap as map
use Rattle.r3k_machine.specs.Core.{Core}
use Rattle.r3k_machine.specs.declared.target.Target.TheVariants.{Memory, Register}
use Rattle.r3k_machine.specs.Run.{console_of, last_writer, next_visit, senders_of, state_at, trace_at}
use Rattle.r3k_machine.specs.Jumps.{Jumping, jumps_from}
use Rattle.r3k_machine.specs.Traced.{traces_at}
use Rattle.r3k_machine.specs.declared.traced.Traced.{Traced}
use Rattle.r3k_word.specs.Layout.{place_of_word}
use Rattle.refusal.specs.declared.fault.Fault.{Fault}
use Rattle.refusal.specs.declared.fault.Fault.TheVariants.{NotFound, NotMemory, Range, TooFar, Unaligned}
use Rattle.present_run.specs.Console.{shown_of}
use Rattle.input_log.specs.Limits.{max_position}
use Rattle.present_run.specs.History.{History}
use Rattle.timeline.specs.declared.writer.Writer.{Writer}
use Rattle.timeline.specs.declared.writer.Writer.TheVariants.{Step, Image, Never}

-- an answer at a position
abbrev pub up_to_max : {A : Type 0} → (position : ℕ) → Result A Fault → Result A Fault
up_to_max position answer = if nat_le position max_position then answer else Err TooFar

-- an answer of a word, by its place in memory
abbrev pub of_place : {A : Type 0} → Option ℕ → (ℕ → Result A Fault) → Result A Fault
of_place (Some place) answer = answer place
of_place None answer = Err NotMemory

abbrev pub of_word : {A : Type 0} → (pages address : ℕ) → (ℕ → Result A Fault) → Result A Fault
of_word pages address answer = if address % 4 == 0 then of_place (place_of_word pages address) answer else Err Unaligned

-- an answer of a serial line
abbrev pub of_line : {A : Type 0} → (line : ℕ) → Result A Fault → Result A Fault
of_line line answer = if nat_le line 3 then answer else Err Range

-- the processor, and a word of memory, at a position
abbrev pub core_at : ℕ → History → (position : ℕ) → Result Core Fault
core_at pages h position = up_to_max position (Ok (state_at pages h.image h.log position).core)

abbrev pub word_at : ℕ → History → (position address : ℕ) → Result ℕ Fault
word_at pages h position address =
    of_word pages address (λ place. up_to_max position (Ok (slice_index (state_at pages h.image h.log position).words place)))

-- what is shown of the console of a line before a position: how many bytes were sent, and a part of them
abbrev pub console_at : ℕ → History → (position line from count : ℕ) → Result (ℕ × List ℕ) Fault
console_at pages h position line from count =
    if nat_le line 3 && (nat_le 1 count && nat_le count 256)
    then up_to_max position (Ok (shown_of from count (console_of line (trace_at pages h.image h.log position))))
    else Err Range

-- the step that sent a byte of a line, by its place in the console, if that was before a position
abbrev pub sent_at : ℕ → History → (position line place : ℕ) → Result ℕ Fault
sent_at pages h position line place =
    of_line line (up_to_max position (ok_or (slice_get (senders_of line 0 (trace_at pages h.image h.log position)) place) NotFound))

-- who wrote a word last: a step, or else the image, or else nobody
abbrev pub writer_of : Option ℕ → Option ℕ → Writer
writer_of (Some step) set = Step step
writer_of None (Some word) = Image
writer_of None None = Never

abbrev pub writer_at : ℕ → History → (position address : ℕ) → Result Writer Fault
writer_at pages h position address =
    of_word pages address (λ _. up_to_max position
    (Ok (writer_of (last_writer (Memory address) (trace_at pages h.image h.log position)) (map.get h.image.words address))))

-- The last step before a position that wrote a register: 1 to 31, 32 for HI, 33 for LO. No step writes r0.
abbrev pub register_writer_at : ℕ → History → (position register : ℕ) → Result ℕ Fault
register_writer_at pages h position register =
    if nat_le register 33
    then up_to_max position (ok_or (last_writer (Register register) (trace_at pages h.image h.log position)) NotFound)
    else Err Range

-- what each of a number of steps from a position on does
abbrev pub followed : ℕ → History → (position count : ℕ) → Result (List Traced) Fault
followed pages h position count =
    if nat_le 1 count && nat_le count 64 then up_to_max (position + count) (Ok (traces_at pages h.image h.log position count)) else Err Range

-- the most steps that a search for a PC or for jumps goes
abbrev pub max_visit : ℕ
max_visit = 1048576

-- The next steps from a position on that transfer control, at most `count` of those within the next `max_visit` steps.
abbrev pub jumps_at : ℕ → History → (position : ℕ) → (local : Bool) → (count : ℕ) → Result Jumping Fault
jumps_at pages h position local count =
    if nat_le 1 count && nat_le count 64
    then up_to_max position (Ok (jumps_from pages h.image h.log local position count (min max_visit (max_position - position))))
    else Err Range

-- the next position at which the PC holds an address, at most `limit` steps after a position
abbrev pub next_pc : ℕ → History → (position address limit : ℕ) → Result ℕ Fault
next_pc pages h position address limit =
    if nat_le 1 limit && nat_le limit max_visit
    then (if address % 4 == 0 then up_to_max (position + limit) (ok_or (next_visit pages h.image h.log address position limit) NotFound) else Err Unaligned)
    else Err Range
