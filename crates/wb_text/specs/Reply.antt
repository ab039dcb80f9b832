-- The replies of a script and their text (own).
use Rattle.std.specs.Prelude.{◌≡◌, ℕ, zero, suc, ◌+◌, ◌*◌, ◌%◌, ◌^◌, ◌<◌, List, [], ◌∷◌, ◌++◌, length, flat_map, Bool, true, false, Option, Some, None, codes, slice_index}
use Rattle.std.specs.Fmt.{decimal}
use Rattle.r3k_disasm.specs.Instruction.{text_of as instruction_text}
use Rattle.input_log.specs.declared.event.Kind.{Kind}
use Rattle.input_log.specs.declared.event.Kind.TheVariants.{Byte, Framing, Wire}
use Rattle.input_log.specs.Event.{LogEvent}
use Rattle.wb_text.specs.Text.{byte_text, flag_text, line, numbered, register_text, value_text, word_text}
use Rattle.wb_text.specs.Jumps.{jumps_text}
use Rattle.wb_text.specs.Trace.{step_text}
use Rattle.wb_text.specs.Lists.{finds_text, timed_list_text}
use Rattle.wb_text.specs.Devices.{devices_text}
use Rattle.wb_text.specs.declared.reply.ControlRegisters.{ControlRegisters}
use Rattle.refusal.specs.declared.fault.Fault.{Fault}
use Rattle.refusal.specs.declared.fault.Fault.TheVariants.{Memory as OutOfMemory, Syntax, Range, NoEvent, Unaligned, NotMemory, TooFar, NotFound}
use Rattle.wb_text.specs.declared.reply.Load.{Load}
use Rattle.wb_text.specs.declared.reply.Registers.{Registers as AllRegisters}
use Rattle.wb_text.specs.declared.memory.Words.{Words}
use Rattle.wb_text.specs.declared.reply.Where.{Where}
use Rattle.wb_text.specs.declared.reply.Where.TheVariants.{Cached, Uncached, AddressError, Refill, Miss}
use Rattle.wb_text.specs.declared.reply.Writer.{Writer}
use Rattle.wb_text.specs.declared.reply.Writer.TheVariants.{Step, Image, Never}
use Rattle.wb_text.specs.declared.reply.Reply.{Reply}
use Rattle.wb_text.specs.declared.reply.Reply.TheVariants.{Position, Registers, Register, Control, Entry, Where as Place, Memory, Instructions, Console, Found, Writer as Wrote, Stores, Finds, RegisterWriter, Pcs, Devices, Trace, Jumps, Log, Event, Left, Patched, Nothing, Fault as Refused}

-- a refusal by its number and name
abbrev pub refusal_text : Fault → List ℕ
refusal_text OutOfMemory = codes "error 1 Memory"
refusal_text Syntax = codes "error 2 Syntax"
refusal_text Range = codes "error 3 Range"
refusal_text NoEvent = codes "error 4 NoEvent"
refusal_text Unaligned = codes "error 5 Unaligned"
refusal_text NotMemory = codes "error 6 NotMemory"
refusal_text TooFar = codes "error 7 TooFar"
refusal_text NotFound = codes "error 8 NotFound"

-- the load slot: a register and its value, or `none`
abbrev pub load_text : Option Load → List ℕ
load_text None = codes "none"
load_text (Some load) = value_text load.register load.value

-- the first line of `regs`: all that isn't one of the 32 registers
unfoldable pub state_text : AllRegisters → List ℕ
state_text r =
    codes "pc " ++ word_text r.pc ++ codes " next " ++ word_text r.next_pc
    ++ codes " hi " ++ word_text r.hi ++ codes " lo " ++ word_text r.lo
    ++ codes " delay " ++ flag_text r.delay ++ codes " load " ++ load_text r.load

-- a row of `regs`: four registers, from one on
unfoldable pub row_text : List ℕ → ℕ → List ℕ
row_text registers first =
    register_text first
    ++ codes " " ++ word_text (slice_index registers first)
    ++ codes " " ++ word_text (slice_index registers (first + 1))
    ++ codes " " ++ word_text (slice_index registers (first + 2))
    ++ codes " " ++ word_text (slice_index registers (first + 3))

-- the lines of the first rows, of which the registers begin with r0, r4, r8 and so on
unfoldable pub rows_text : List ℕ → ℕ → List ℕ
rows_text registers zero = []
rows_text registers (suc row) = rows_text registers row ++ line (row_text registers (4 * row))

-- the line of `cp0`: the control registers by name
unfoldable pub control_text : ControlRegisters → List ℕ
control_text c =
    codes "index " ++ word_text c.index ++ codes " random " ++ word_text c.random
    ++ codes " entrylo " ++ word_text c.entry_lo ++ codes " context " ++ word_text c.context
    ++ codes " badvaddr " ++ word_text c.bad_vaddr ++ codes " entryhi " ++ word_text c.entry_hi
    ++ codes " status " ++ word_text c.status ++ codes " cause " ++ word_text c.cause
    ++ codes " epc " ++ word_text c.epc ++ codes " prid " ++ word_text c.prid

-- what a translation entry shows
abbrev pub entry_text : (number hi lo : ℕ) → List ℕ
entry_text number hi lo = codes "tlb " ++ decimal number ++ codes " " ++ word_text hi ++ codes " " ++ word_text lo

-- where an address leads
abbrev pub where_text : Where → List ℕ
where_text (Cached physical) = codes "where " ++ word_text physical ++ codes " cached"
where_text (Uncached physical) = codes "where " ++ word_text physical ++ codes " uncached"
where_text AddressError = codes "where adel"
where_text Refill = codes "where tlbl refill"
where_text Miss = codes "where tlbl"

-- what the line of a word of memory says: its address and the word, and as an instruction its text too
unfoldable pub memory_text : (instruction : Bool) (address word : ℕ) → List ℕ
memory_text false address word = word_text address ++ codes " " ++ word_text word
memory_text true address word = word_text address ++ codes " " ++ word_text word ++ codes " " ++ instruction_text address word

-- the lines of the first words of `mem` or `dis`, from an address on
unfoldable pub words_text : Bool → ℕ → List ℕ → ℕ → List ℕ
words_text instruction address words zero = []
words_text instruction address words (suc place) =
    words_text instruction address words place ++ line (memory_text instruction ((address + 4 * place) % 2 ^ 32) (slice_index words place))

-- the lines of all words
abbrev pub all_words_text : Bool → Words → List ℕ
all_words_text instruction w = words_text instruction w.address w.words.items (length w.words.items)

-- bytes, or `none`
unfoldable pub bytes_text : List ℕ → List ℕ
bytes_text [] = codes "none"
bytes_text (byte ∷ bytes) = flat_map byte_text (byte ∷ bytes)

-- the line of `console`: a serial line, how many bytes were sent on it, and those that are shown
abbrev pub console_text : (number total : ℕ) → List ℕ → List ℕ
console_text number total bytes =
    codes "console " ++ decimal number ++ codes " " ++ decimal total ++ codes " " ++ bytes_text bytes

-- the last writer of a word: a step, `image` or `never`
abbrev pub writer_text : Writer → List ℕ
writer_text (Step step) = codes "writer " ++ decimal step
writer_text Image = codes "writer image"
writer_text Never = codes "writer never"

-- the last step that wrote a register, or `never`
abbrev pub register_writer_text : Option ℕ → List ℕ
register_writer_text (Some step) = codes "regwriter " ++ decimal step
register_writer_text None = codes "regwriter never"

-- what is said of a kind: nothing of the arrival of a byte
abbrev pub kind_text : Kind → List ℕ
kind_text Byte = []
kind_text Framing = codes " framing"
kind_text Wire = codes " wire"

-- what the line of an event says: its number, its time, its line, its byte and its kind
unfoldable pub event_text : ℕ → LogEvent → List ℕ
event_text number event =
    decimal number ++ codes " " ++ decimal event.time ++ codes " " ++ decimal event.line ++ codes " 0x" ++ byte_text event.byte ++ kind_text event.kind

-- the lines of `log`: how many events the log has, and those that are shown
abbrev pub log_text : (total first : ℕ) → List LogEvent → List ℕ
log_text total first events = line (codes "log " ++ decimal total) ++ numbered event_text first events

-- the text of a reply
abbrev pub text_of : Reply → List ℕ
text_of (Position position) = line (codes "pos " ++ decimal position)
text_of (Registers r) = line (state_text r) ++ rows_text r.registers 8
text_of (Register number value) = line (value_text number value)
text_of (Control c) = line (control_text c)
text_of (Entry number hi lo) = line (entry_text number hi lo)
text_of (Place place) = line (where_text place)
text_of (Memory w) = all_words_text false w
text_of (Instructions w) = all_words_text true w
text_of (Console number total bytes) = line (console_text number total bytes.items)
text_of (Found step) = line (codes "find " ++ decimal step)
text_of (Wrote writer) = line (writer_text writer)
text_of (Stores stores) = timed_list_text (codes "stores ") stores.items
text_of (Finds first steps) = finds_text first steps.items
text_of (RegisterWriter step) = line (register_writer_text step)
text_of (Pcs pcs) = timed_list_text (codes "pcs ") pcs.items
text_of (Devices d) = devices_text d
text_of (Trace first steps) = numbered step_text first steps.items
text_of (Jumps next jumps) = jumps_text next jumps.items
text_of (Log total first events) = log_text total first events.items
text_of (Event number) = line (codes "event " ++ decimal number)
text_of (Left total) = line (codes "log " ++ decimal total)
text_of Patched = line (codes "ok")
text_of Nothing = []
text_of (Refused fault) = line (refusal_text fault)

-- a reply has a text: it is not that of `quit`, and shows a word or a step if it shows words or steps
abbrev pub HasText : Reply → Type 0
HasText Nothing = ⊥
HasText (Memory w) = 0 < length w.words.items
HasText (Instructions w) = 0 < length w.words.items
HasText (Trace first steps) = 0 < length steps.items
HasText reply = Unit {0}

-- a text that is not empty and whose last byte is a line feed
abbrev pub EndsWithLineFeed : List ℕ → Type 0
EndsWithLineFeed text = (front : List ℕ) × (text ≡ line front)
