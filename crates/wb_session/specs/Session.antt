-- A session (own): an image, a log and a position, and the answer to each command.
use Rattle.std.specs.Prelude.{◌≡◌, ◌⊎◌, ℕ, ◌+◌, ◌-◌, ◌≤◌, Bool, true, false, List, [], length, map, Option, Some, None, Result, Ok, Err, ◌==◌, if◌then◌else◌, nat_le, slice_index, slice_index_or}
use Rattle.cop0.specs.Registers.{Registers as ControlState, register_of}
use Rattle.input_log.specs.declared.edit.Edit.{Edit}
use Rattle.input_log.specs.declared.edit.Edit.TheVariants as edit
use Rattle.input_log.specs.declared.event.Kind.TheVariants.{Byte, Framing, Wire as WireKind}
use Rattle.input_log.specs.Edits.{edited, event_place}
use Rattle.input_log.specs.Event.{LogEvent}
use Rattle.r3k_image.specs.Boot.{Boot, FitsRam}
use Rattle.r3k_image.specs.Patch.{patching}
use Rattle.r3k_image.specs.declared.fault.ImageKind.TheVariants.{Pages}
use Rattle.r3k_machine.specs.Core.{Core}
use Rattle.r3k_machine.specs.Address.{where_at}
use Rattle.r3k_machine.specs.LoadSlot.{DelayedLoad}
use Rattle.r3k_machine.specs.declared.address.Where.{Where as MachineWhere}
use Rattle.r3k_machine.specs.declared.address.Where.TheVariants as machine_where
use Rattle.r3k_machine.specs.Run.{state_at}
use Rattle.tlb64.specs.Entries.{empty_entry}
use Rattle.tlb64.specs.declared.entry.Entry.{Entry}
use Rattle.timeline.specs.Console.{part_of}
use Rattle.input_log.specs.Limits.{max_position}
use Rattle.timeline.specs.History.{History}
use Rattle.timeline.specs.TimelineView.{TimelineView}
use Rattle.timeline.specs.Query.{console_at, core_at, followed, jumps_at, next_pc, register_writer_at, sent_at, writer_at}
use Rattle.timeline.specs.Sizes.{AreSizes}
use Rattle.timeline.specs.declared.writer.Writer.{Writer as LastWriter}
use Rattle.timeline.specs.declared.writer.Writer.TheVariants as last
use Rattle.wb_options.specs.declared.fault.RunFault.{RunFault}
use Rattle.wb_options.specs.declared.fault.RunFault.TheVariants.{Memory as OutOfMemory, BadImage}
use Rattle.wb_text.specs.declared.command.Command.{Command}
use Rattle.wb_text.specs.declared.command.Command.TheVariants.{Pos, Goto, Step, Back, Visit, Regs, Reg, Cp0, Tlb, Where as WhereIs, Mem, Dis, Console, Find, Writer as WriterOf, Stores, Finds, RegisterWriter, Pcs, Devices, Trace, Jumps, Log, Add, Ferr, Wire, Del, Set, Move, Erase, Patch, Quit}
use Rattle.r3k_machine.specs.Jumps.{Jumping}
use Rattle.r3k_machine.specs.declared.traced.Traced.{Traced}
use Rattle.refusal.specs.declared.fault.Fault.{Fault}
use Rattle.refusal.specs.declared.fault.Fault.TheVariants.{Memory, NotFound, TooFar}
use Rattle.wb_text.specs.declared.memory.Words.{Words}
use Rattle.wb_text.specs.declared.reply.ControlRegisters.{ControlRegisters}
use Rattle.wb_text.specs.declared.reply.Load.{Load}
use Rattle.wb_text.specs.declared.reply.Registers.{Registers as AllRegisters}
use Rattle.wb_text.specs.declared.reply.Writer.{Writer}
use Rattle.wb_text.specs.declared.reply.Writer.TheVariants as writer
use Rattle.wb_text.specs.declared.reply.Where.{Where}
use Rattle.wb_text.specs.declared.reply.Where.TheVariants.{Cached, Uncached, AddressError, Refill, Miss}
use Rattle.wb_text.specs.declared.reply.Reply.{Reply}
use Rattle.wb_text.specs.declared.reply.Reply.TheVariants.{Position, Registers, Register, Control, Entry as EntryReply, Where as Place, Memory as MemoryReply, Instructions, Console as ConsoleReply, Found, Writer as WriterReply, Stores as StoresReply, Finds as FindsReply, RegisterWriter as RegisterWriterReply, Pcs as PcsReply, Devices as DevicesReply, Trace as TraceReply, Jumps as JumpsReply, Log as LogReply, Event, Left, Patched, Nothing, Fault as Refused}
use Rattle.wb_text.specs.declared.lists.Timed.{Timed}
use Rattle.wb_session.specs.Memory.{places_of}
use Rattle.wb_session.specs.Lists.{pcs_at, senders_at, stores_at}
use Rattle.wb_session.specs.Devices.{devices_shown}

-- what a session is: an image, a log and a position
pub record Triple : Type 0 where
  pub image : Boot
  pub log : List LogEvent
  pub position : ℕ

-- What a session holds: what its timeline holds, which includes its history, and a position. Whoever asks sees a triple of image,
-- log and position.
pub record Held : Type 0 where
  pub timeline : TimelineView
  pub position : ℕ

-- the image, the log and the position of what a session holds
abbrev pub triple_of : Held → Triple
triple_of s = record { image = s.timeline.history.image; log = s.timeline.history.log; position = s.position }

-- how many pasts a session keeps side by side (own)
abbrev pub kept_pasts : ℕ
kept_pasts = 4

-- a session as it begins: at position 0, with nothing kept
abbrev pub begun : Boot → List LogEvent → Held
begun image log = record { timeline = record { history = record { image = image; log = log }; rows = []; pasts = kept_pasts; steps = 0; recent_states = [] }; position = 0 }

-- the history of a session
abbrev pub history_of : Triple → History
history_of s = record { image = s.image; log = s.log }

-- A session of a machine with `pages` pages of RAM and spans of `span` steps: sizes in their ranges, an image that fits,
-- and a position that is not past the greatest one.
pub record IsSession (pages span : ℕ) (s : Triple) : Type 0 where
  pub sizes : AreSizes pages span
  pub fits : FitsRam pages s.image
  pub position : s.position ≤ max_position

-- why there is no session of an image: it does not fit, or it fits and memory is refused
abbrev pub IsNewFault : ℕ → Boot → RunFault → Type 0
IsNewFault pages image OutOfMemory = FitsRam pages image
IsNewFault pages image (BadImage kind) = (kind ≡ Pages) × ¬ FitsRam pages image
IsNewFault pages image fault = ⊥

-- what `regs` shows of a processor
abbrev pub shown_load : Option DelayedLoad → Option Load
shown_load None = None
shown_load (Some load) = Some (record { register = load.register; value = load.value })

abbrev pub shown : Core → AllRegisters
shown core = record {
  pc = core.pc;
  next_pc = core.next_pc;
  hi = core.hi;
  lo = core.lo;
  delay = core.delay;
  load = shown_load core.load;
  registers = core.registers;
}

-- what `cp0` shows of the control registers
abbrev pub shown_control : ControlState → ControlRegisters
shown_control c = record {
  index = register_of c 0;
  random = register_of c 1;
  entry_lo = register_of c 2;
  context = register_of c 4;
  bad_vaddr = register_of c 8;
  entry_hi = register_of c 10;
  status = register_of c 12;
  cause = register_of c 13;
  epc = register_of c 14;
  prid = register_of c 15;
}

-- what `tlb` shows of a translation entry
abbrev pub shown_entry : ℕ → Entry → Reply
shown_entry number entry = EntryReply number entry.hi entry.lo

-- what `where` shows of where an address leads
abbrev pub shown_place : MachineWhere → Where
shown_place (machine_where.Cached physical) = Cached physical
shown_place (machine_where.Uncached physical) = Uncached physical
shown_place machine_where.Adel = AddressError
shown_place machine_where.Refill = Refill
shown_place machine_where.Tlbl = Miss

-- an answer: the session after it, and the reply
pub record Answer : Type 0 where
  pub session : Triple
  pub reply : Reply

abbrev pub answer : Triple → Reply → Answer
answer session reply = record { session = session; reply = reply }

-- a refusal keeps the session
abbrev pub refusal : Triple → Fault → Answer
refusal s fault = answer s (Refused fault)

-- a move to a position, unless it is past the greatest one
abbrev pub moved : Triple → ℕ → Answer
moved s position =
    if nat_le position max_position
    then answer (record { image = s.image; log = s.log; position = position }) (Position position)
    else refusal s TooFar

-- the words of memory that a session shows, from an address on, or why it can't
abbrev pub words_of : ℕ → Triple → (address : ℕ) → Result (List ℕ) Fault → Result Words Fault
words_of pages s address (Ok places) =
    Ok (record { address = address; words = record { items = map (slice_index (state_at pages s.image s.log s.position).words) places } })
words_of pages s address (Err fault) = Err fault

-- what `mem` and `dis` show of the words from an address on
abbrev pub words_shown : ℕ → Triple → (address count : ℕ) → Result Words Fault
words_shown pages s address count = words_of pages s address (places_of pages address count)

-- what `writer` shows of the last writer
abbrev pub shown_writer : LastWriter → Writer
shown_writer (last.Step step) = writer.Step step
shown_writer last.Image = writer.Image
shown_writer last.Never = writer.Never

-- what `console` shows of the bytes that were sent, and `log` of the log: how many there are, and a part of them
abbrev pub console_shown : (line : ℕ) → ℕ × List ℕ → Reply
console_shown line shown = ConsoleReply line shown.0 (record { items = shown.1 })

abbrev pub log_shown : (from count : ℕ) → List LogEvent → Reply
log_shown from count log = LogReply (length log) from (record { items = part_of from count log })

-- what `regwriter` shows of the last step that wrote a register: that none did is no refusal
abbrev pub writer_or_none : Result ℕ Fault → Result (Option ℕ) Fault
writer_or_none (Ok step) = Ok (Some step)
writer_or_none (Err NotFound) = Ok None
writer_or_none (Err fault) = Err fault

-- what `stores`, `finds` and `pcs` show of a list
abbrev pub stores_shown : List Timed → Reply
stores_shown stores = StoresReply (record { items = stores })

abbrev pub finds_shown : (place : ℕ) → List ℕ → Reply
finds_shown place steps = FindsReply place (record { items = steps })

abbrev pub pcs_shown : List Timed → Reply
pcs_shown pcs = PcsReply (record { items = pcs })

-- what `trace` shows of steps, by the position at which the first one begins
abbrev pub trace_shown : (position : ℕ) → List Traced → Reply
trace_shown position steps = TraceReply position (record { items = steps })

-- what `jumps` shows
abbrev pub jumps_shown : Jumping → Reply
jumps_shown found = JumpsReply found.next (record { items = found.jumps })

-- The answers that show what a query gives, make a move, edit the log, and patch the image. A refusal keeps the session.
abbrev pub shows : {A : Type 0} → Triple → (A → Reply) → Result A Fault → Answer
shows s show (Ok answered) = answer s (show answered)
shows s show (Err fault) = refusal s fault

abbrev pub visits : Triple → Result ℕ Fault → Answer
visits s (Ok position) = answer (record { image = s.image; log = s.log; position = position }) (Position position)
visits s (Err fault) = refusal s fault

abbrev pub shows_log : Triple → (List LogEvent → Reply) → Result (List LogEvent) Fault → Answer
shows_log s show (Ok log) = answer (record { image = s.image; log = log; position = s.position }) (show log)
shows_log s show (Err fault) = refusal s fault

-- an edit shows the place of the event that it adds, sets or moves, or how many events are left
abbrev pub edit_shown : Option ℕ → List LogEvent → Reply
edit_shown (Some place) log = Event place
edit_shown None log = Left (length log)

abbrev pub edits : Triple → Edit → Answer
edits s edit = shows_log s (edit_shown (event_place edit s.log)) (edited edit s.log)

abbrev pub patches : Triple → Result Boot Fault → Answer
patches s (Ok image) = answer (record { image = image; log = s.log; position = s.position }) Patched
patches s (Err fault) = refusal s fault

-- the answer that shows something of the processor at the position
abbrev pub of_core : ℕ → Triple → (Core → Reply) → Answer
of_core pages s show = shows s show (core_at pages (history_of s) s.position)

-- The plain answer of a command, on a machine with `pages` RAM pages. A refused command keeps the session.
abbrev pub plain : ℕ → Triple → Command → Answer
plain pages s Pos = answer s (Position s.position)
plain pages s (Goto position) = moved s position
plain pages s (Step count) = moved s (s.position + count)
plain pages s (Back count) = if nat_le count s.position then moved s (s.position - count) else refusal s TooFar
plain pages s (Visit address limit) = visits s (next_pc pages (history_of s) s.position address limit)
plain pages s Regs = of_core pages s (λ core. Registers (shown core))
plain pages s (Reg number) = of_core pages s (λ core. Register number (slice_index core.registers number))
plain pages s Cp0 = of_core pages s (λ core. Control (shown_control core.cop0))
plain pages s (Tlb number) = of_core pages s (λ core. shown_entry number (slice_index_or core.entries number empty_entry))
plain pages s (WhereIs address) = of_core pages s (λ core. Place (shown_place (where_at core address)))
plain pages s (Mem address count) = shows s (λ words. MemoryReply words) (words_shown pages s address count)
plain pages s (Dis address count) = shows s (λ words. Instructions words) (words_shown pages s address count)
plain pages s (Console line from count) = shows s (console_shown line) (console_at pages (history_of s) s.position line from count)
plain pages s (Find line place) = shows s (λ step. Found step) (sent_at pages (history_of s) s.position line place)
plain pages s (WriterOf address) = shows s (λ last. WriterReply (shown_writer last)) (writer_at pages (history_of s) s.position address)
plain pages s (Stores address count) = shows s stores_shown (stores_at pages (history_of s) s.position address count)
plain pages s (Finds line place count) = shows s (finds_shown place) (senders_at pages (history_of s) s.position line place count)
plain pages s (RegisterWriter register) =
    shows s (λ step. RegisterWriterReply step) (writer_or_none (register_writer_at pages (history_of s) s.position register))
plain pages s (Pcs distance count) = shows s pcs_shown (pcs_at pages (history_of s) s.position distance count)
plain pages s Devices = of_core pages s (λ core. DevicesReply (devices_shown core.bus))
plain pages s (Trace count) = shows s (trace_shown s.position) (followed pages (history_of s) s.position count)
plain pages s (Jumps kind count) = shows s jumps_shown (jumps_at pages (history_of s) s.position (kind == 1) count)
plain pages s (Log from count) = answer s (log_shown from count s.log)
plain pages s (Add time line byte) = edits s (edit.Add time Byte line byte)
plain pages s (Ferr time line byte) = edits s (edit.Add time Framing line byte)
plain pages s (Wire time line level) = edits s (edit.Add time WireKind line level)
plain pages s (Del place) = edits s (edit.Delete place)
plain pages s (Set place byte) = edits s (edit.Set place byte)
plain pages s (Move place time) = edits s (edit.Move place time)
plain pages s (Erase from to) = edits s (edit.Erase from to)
plain pages s (Patch address word) = patches s (patching pages address word s.image)
plain pages s Quit = answer s Nothing

-- the commands that may be refused for memory
abbrev pub takes_memory : Command → Bool
takes_memory Pos = false
takes_memory (Goto position) = false
takes_memory (Step count) = false
takes_memory (Back count) = false
takes_memory (Visit address limit) = true
takes_memory Regs = true
takes_memory (Reg number) = true
takes_memory Cp0 = true
takes_memory (Tlb number) = true
takes_memory (WhereIs address) = true
takes_memory (Mem address count) = true
takes_memory (Dis address count) = true
takes_memory (Console line from count) = true
takes_memory (Find line place) = true
takes_memory (WriterOf address) = true
takes_memory (Stores address count) = true
takes_memory (Finds line place count) = true
takes_memory (RegisterWriter register) = true
takes_memory (Pcs distance count) = true
takes_memory Devices = true
takes_memory (Trace count) = true
takes_memory (Jumps kind count) = true
takes_memory (Log from count) = false
takes_memory (Add time line byte) = true
takes_memory (Ferr time line byte) = true
takes_memory (Wire time line level) = true
takes_memory (Del place) = false
takes_memory (Set place byte) = false
takes_memory (Move place time) = false
takes_memory (Erase from to) = false
takes_memory (Patch address word) = true
takes_memory Quit = false

-- the refusals that come before that for memory: 2 to 7
abbrev pub comes_before_memory : Reply → Bool
comes_before_memory (Refused Memory) = false
comes_before_memory (Refused NotFound) = false
comes_before_memory (Refused fault) = true
comes_before_memory reply = false

-- An answer whose plain one is this: it, or where memory is taken also a refusal for want of it, which keeps the session. That refusal
-- comes only where the plain reply is no refusal that comes before it.
abbrev pub AnswersAs : (takes_memory : Bool) → (plain : Answer) → Triple → Triple → Reply → Type 0
AnswersAs takes_memory plain old new reply =
    (answer new reply ≡ plain)
    ⊎ ((takes_memory ≡ true) × (comes_before_memory plain.reply ≡ false) × (new ≡ old) × (reply ≡ Refused Memory))

-- the answers of a command
abbrev pub Answers : ℕ → Triple → Command → Triple → Reply → Type 0
Answers pages old command new reply = AnswersAs (takes_memory command) (plain pages old command) old new reply
