-- The commands of a script and how a line says them (own).
use Rattle.std.specs.Prelude.{ℕ, ◌∷◌, [], List, ◌-◌, ◌^◌, Option, Some, None, Result, Ok, Err, if◌then◌else◌, nat_lt, length, codes, slice_index}
use Rattle.std.specs.Str.{bytes_eq}
use Rattle.std.specs.Str.Lines.{strip_carriage_return}
use Rattle.input_log.specs.Limits.{max_time}
use Rattle.wb_text.specs.Number.{number_of, number_within}
use Rattle.wb_text.specs.Words.{words_of, begins_comment}
use Rattle.wb_text.specs.declared.command.Command.{Command}
use Rattle.wb_text.specs.declared.command.Command.TheVariants.{Pos, Goto, Step, Back, Visit, Regs, Reg, Cp0, Tlb, Where, Mem, Dis, Console, Find, Writer, Stores, Finds, RegisterWriter, Pcs, Devices, Trace, Jumps, Log, Add, Ferr, Wire, Del, Set, Move, Erase, Patch, Quit}
use Rattle.refusal.specs.declared.fault.Fault.{Fault}
use Rattle.refusal.specs.declared.fault.Fault.TheVariants.{Syntax}

-- the refusal of two that comes first: Syntax comes before Range
abbrev pub first_of : Fault → Fault → Fault
first_of Syntax other = Syntax
first_of fault other = other

-- what two parts of a line say together, unless one is refused: Syntax comes before Range
abbrev pub both_of : {A B : Type 0} → Result A Fault → Result B Fault → Result (A × B) Fault
both_of (Ok first) (Ok other) = Ok (first, other)
both_of (Ok first) (Err fault) = Err fault
both_of (Err fault) (Ok other) = Err fault
both_of (Err fault) (Err other) = Err (first_of fault other)

-- a number in front of numbers
abbrev pub in_front : Result (ℕ × List ℕ) Fault → Result (List ℕ) Fault
in_front (Ok parts) = Ok (parts.0 ∷ parts.1)
in_front (Err fault) = Err fault

-- The numbers of a command that allows each a range from least to greatest. Another number of words is Syntax.
abbrev pub numbers_of : List (ℕ × ℕ) → List (List ℕ) → Result (List ℕ) Fault
numbers_of [] [] = Ok []
numbers_of [] (word ∷ words) = Err Syntax
numbers_of (range ∷ ranges) [] = Err Syntax
numbers_of (range ∷ ranges) (word ∷ words) =
    in_front (both_of (number_within range.0 range.1 (number_of word)) (numbers_of ranges words))

-- the ranges of numbers: of any, of a register, of one that instructions write (with 32 for HI and 33 for LO), of a translation
-- entry, of an address, of a word, of a line of the serial part, of a byte, of an external line, of its level, of an event's time, of
-- how many words, bytes, events, stores, senders and positions a reply shows, of how far positions are apart, of how many steps are
-- followed, and of how many are searched
abbrev pub any_number : ℕ × ℕ
any_number = (0, 2 ^ 64 - 1)

abbrev pub register_number : ℕ × ℕ
register_number = (0, 31)

abbrev pub written_number : ℕ × ℕ
written_number = (0, 33)

abbrev pub entry_number : ℕ × ℕ
entry_number = (0, 63)

abbrev pub address : ℕ × ℕ
address = (0, 2 ^ 32 - 1)

abbrev pub word_value : ℕ × ℕ
word_value = (0, 2 ^ 32 - 1)

abbrev pub line_number : ℕ × ℕ
line_number = (0, 3)

abbrev pub byte_value : ℕ × ℕ
byte_value = (0, 255)

abbrev pub wire_number : ℕ × ℕ
wire_number = (0, 2)

abbrev pub level : ℕ × ℕ
level = (0, 1)

abbrev pub event_time : ℕ × ℕ
event_time = (0, max_time)

abbrev pub word_count : ℕ × ℕ
word_count = (1, 32)

abbrev pub byte_count : ℕ × ℕ
byte_count = (1, 256)

abbrev pub event_count : ℕ × ℕ
event_count = (1, 32)

abbrev pub store_count : ℕ × ℕ
store_count = (1, 32)

abbrev pub find_count : ℕ × ℕ
find_count = (1, 64)

abbrev pub position_count : ℕ × ℕ
position_count = (1, 64)

abbrev pub distance : ℕ × ℕ
distance = (1, 2 ^ 64 - 1)

abbrev pub trace_count : ℕ × ℕ
trace_count = (1, 64)

-- which jumps are asked for, and how many
abbrev pub jump_kind : ℕ × ℕ
jump_kind = (0, 1)

abbrev pub jump_count : ℕ × ℕ
jump_count = (1, 64)

abbrev pub step_count : ℕ × ℕ
step_count = (1, 2 ^ 20)

-- A row of the table of commands: a name, the ranges of the numbers after it, and the command that they make.
pub record Form : Type 0 where
  pub name : List ℕ
  pub ranges : List (ℕ × ℕ)
  pub make : List ℕ → Command

-- the rows of commands that take no number, one, two and three
abbrev pub none : List ℕ → Command → Form
none name command = record { name = name; ranges = []; make = λ _. command }

abbrev pub one : List ℕ → ℕ × ℕ → (ℕ → Command) → Form
one name range make = record { name = name; ranges = range ∷ []; make = λ numbers. make (slice_index numbers 0) }

abbrev pub two : List ℕ → ℕ × ℕ → ℕ × ℕ → (ℕ → ℕ → Command) → Form
two name range next make = record {
  name = name;
  ranges = range ∷ next ∷ [];
  make = λ numbers. make (slice_index numbers 0) (slice_index numbers 1);
}

abbrev pub three : List ℕ → ℕ × ℕ → ℕ × ℕ → ℕ × ℕ → (ℕ → ℕ → ℕ → Command) → Form
three name range next last make = record {
  name = name;
  ranges = range ∷ next ∷ last ∷ [];
  make = λ numbers. make (slice_index numbers 0) (slice_index numbers 1) (slice_index numbers 2);
}

-- the table of commands, in four parts: moves and the end; questions about the state at the position; questions about the run; the
-- log, its edits and patches
abbrev pub moves : List Form
moves =
    none (codes "pos") Pos
    ∷ one (codes "goto") any_number Goto
    ∷ one (codes "step") any_number Step
    ∷ one (codes "back") any_number Back
    ∷ two (codes "visit") address step_count Visit
    ∷ none (codes "quit") Quit
    ∷ []

abbrev pub state_queries : List Form
state_queries =
    none (codes "regs") Regs
    ∷ one (codes "reg") register_number Reg
    ∷ none (codes "cp0") Cp0
    ∷ one (codes "tlb") entry_number Tlb
    ∷ one (codes "where") address Where
    ∷ two (codes "mem") address word_count Mem
    ∷ two (codes "dis") address word_count Dis
    ∷ none (codes "devices") Devices
    ∷ []

abbrev pub run_queries : List Form
run_queries =
    three (codes "console") line_number any_number byte_count Console
    ∷ two (codes "find") line_number any_number Find
    ∷ one (codes "writer") address Writer
    ∷ two (codes "stores") address store_count Stores
    ∷ three (codes "finds") line_number any_number find_count Finds
    ∷ one (codes "regwriter") written_number RegisterWriter
    ∷ two (codes "pcs") distance position_count Pcs
    ∷ one (codes "trace") trace_count Trace
    ∷ two (codes "jumps") jump_kind jump_count Jumps
    ∷ []

abbrev pub edits : List Form
edits =
    two (codes "log") any_number event_count Log
    ∷ three (codes "add") event_time line_number byte_value Add
    ∷ three (codes "ferr") event_time line_number byte_value Ferr
    ∷ three (codes "wire") event_time wire_number level Wire
    ∷ one (codes "del") any_number Del
    ∷ two (codes "set") any_number byte_value Set
    ∷ two (codes "move") any_number event_time Move
    ∷ two (codes "erase") any_number any_number Erase
    ∷ two (codes "patch") address word_value Patch
    ∷ []

-- the command that its numbers make
abbrev pub made_by : (List ℕ → Command) → Result (List ℕ) Fault → Result Command Fault
made_by make (Ok numbers) = Ok (make numbers)
made_by make (Err fault) = Err fault

-- the command of a name and the words after it, by the rows of a table, or by others if no row has the name
abbrev pub command_among : List Form → (List ℕ → List (List ℕ) → Result Command Fault) → List ℕ → List (List ℕ) → Result Command Fault
command_among [] others name words = others name words
command_among (form ∷ forms) others name words =
    if bytes_eq name form.name then made_by form.make (numbers_of form.ranges words) else command_among forms others name words

-- a name of no table is Syntax
abbrev pub unknown : List ℕ → List (List ℕ) → Result Command Fault
unknown name words = Err Syntax

-- the command of a name, by each part of the table and those after it, and by the whole table
abbrev pub edit_named : List ℕ → List (List ℕ) → Result Command Fault
edit_named = command_among edits unknown

abbrev pub run_query_named : List ℕ → List (List ℕ) → Result Command Fault
run_query_named = command_among run_queries edit_named

abbrev pub state_query_named : List ℕ → List (List ℕ) → Result Command Fault
state_query_named = command_among state_queries run_query_named

abbrev pub command_named : List ℕ → List (List ℕ) → Result Command Fault
command_named = command_among moves state_query_named

-- what a line with a command says
abbrev pub some_command : Result Command Fault → Result (Option Command) Fault
some_command (Ok command) = Ok (Some command)
some_command (Err fault) = Err fault

-- The command of a line's words. A line without words has none, and neither has a comment.
abbrev pub command_of_words : List (List ℕ) → Result (Option Command) Fault
command_of_words [] = Ok None
command_of_words (name ∷ words) =
    if begins_comment name then Ok None else some_command (command_named name words)

-- the most bytes of a line
abbrev pub line_bytes : ℕ
line_bytes = 256

-- What a line without its line feed says: one carriage return at its end is dropped, and then more
-- bytes than that are Syntax, whatever they hold.
abbrev pub command_of : List ℕ → Result (Option Command) Fault
command_of line =
    let text = strip_carriage_return line in
    if nat_lt line_bytes (length text) then Err Syntax else command_of_words (words_of text)
