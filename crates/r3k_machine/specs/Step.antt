-- One step, after Kane and Heinrich, chapters 1 to 3 and 6; the order of its parts is own.
use Rattle.std.specs.Prelude.{◌≡◌, ℕ, ◌/◌, List, [], ◌∷◌, true, false, Option, Some, None, Result, Ok, Err, unwrap_or, ◌==◌, ◌%◌, if◌then◌else◌}
use Rattle.r3k_word.specs.Word.{sum_of}
use Rattle.r3k_word.specs.declared.layout.TheConstants.{PAGE_BYTES}
use Rattle.cop0.specs.Changes as control
use Rattle.cop0.specs.Registers.{register_of, written}
use Rattle.cop0.specs.declared.exception.Coprocessor.TheVariants.{Cp0}
use Rattle.r3k_decode.specs.Operation.{Operation}
use Rattle.r3k_decode.specs.Decoding.{operation_of}
use Rattle.input_log.specs.declared.event.Kind.{Kind}
use Rattle.input_log.specs.declared.event.Kind.TheVariants.{Byte, Framing, Wire}
use Rattle.input_log.specs.Event.{LogEvent}
use Rattle.r3k_exec.specs.Access.{loaded, stored}
use Rattle.r3k_exec.specs.Effects.{effect_of}
use Rattle.r3k_exec.specs.declared.access.LoadKind.{LoadKind}
use Rattle.r3k_exec.specs.declared.operands.Effect.{Effect}
use Rattle.r3k_exec.specs.declared.operands.Effect.TheVariants.{Write, WriteHi, WriteLo, WriteHiLo, Jump, JumpAndLink, Trap, Load, Store, MoveFromControl, MoveToControl, ReadEntry, WriteIndexedEntry, WriteRandomEntry, ProbeEntry, ReturnFromException}
use Rattle.r3k_exec.specs.declared.operands.Operands.{Operands}
use Rattle.r3k_machine.specs.declared.exception.Exception.{Exception}
use Rattle.r3k_machine.specs.declared.exception.Exception.TheVariants.{Interrupt, CoprocessorUnusable}
use Rattle.r3k_machine.specs.declared.load_store.Loaded.{Loaded}
use Rattle.r3k_machine.specs.declared.load_store.Stored.{Stored}
use Rattle.r3k_machine.specs.declared.load_store.Word.{Word}
use Rattle.std.specs.List.{fold}
use Rattle.kn02_bus.specs.Tick as bus
use Rattle.kn02_bus.specs.State.{BusState}
use Rattle.kn02_bus.specs.Lines.{lines_of}
use Rattle.r3k_machine.specs.Core.{Core}
use Rattle.r3k_machine.specs.declared.step.Done.{Done}
use Rattle.r3k_machine.specs.Destination.{destination_of}
use Rattle.r3k_machine.specs.LoadSlot.{slot_after_load}
use Rattle.r3k_machine.specs.State.{State, register, with_register, landed}
use Rattle.r3k_machine.specs.LoadStore.{meaning_of_fetch, fetched, loaded_from, core_after_load, stored_to, core_after_store, words_after}
use Rattle.r3k_machine.specs.Address.{met}
use Rattle.r3k_machine.specs.Translation.{with_entry_read, with_entry_written, with_probe}
use Rattle.cop0.specs.declared.number.TheConstants.{INDEX, RANDOM}
use Rattle.r3k_machine.specs.Exceptions.{entered, exception_of, is_unusable, without_row}

-- what a step leaves and reports
pub record Outcome : Type 0 where
  pub state : State
  pub done : Done

-- What it reports: it at most fetched, or its instruction completed. That touched no memory but the page that it was fetched from, or
-- loaded, from a page or from none, or stored, into a word of RAM or into none, and perhaps sent a byte.
abbrev pub fetching : Option ℕ → Done
fetching page = record { sent = None; stored = None; touched = page ∷ None ∷ []; wrote = 0 }

abbrev pub completing : (page wrote : ℕ) → Done
completing page wrote = record { sent = None; stored = None; touched = Some page ∷ None ∷ []; wrote = wrote }

abbrev pub loading : ℕ → Option ℕ → (number : ℕ) → Done
loading page from number = record { sent = None; stored = None; touched = Some page ∷ from ∷ []; wrote = number }

abbrev pub page_stored : Option ℕ → Option ℕ
page_stored None = None
page_stored (Some address) = Some (address / PAGE_BYTES)

abbrev pub storing : ℕ → Stored → Done
storing page stored = record { sent = stored.sent; stored = stored.address; touched = Some page ∷ page_stored stored.address ∷ []; wrote = 0 }

-- 1. The log's events take effect, in the order of the log.
abbrev pub received_as : Kind → BusState → (line byte : ℕ) → BusState
received_as Byte devices line byte = bus.arrived devices line byte
received_as Framing devices line byte = bus.arrived_framing devices line byte
received_as Wire devices line byte = bus.wired devices line (byte == 1)

abbrev pub received : List LogEvent → BusState → BusState
received events devices = fold (λ devices event. received_as event.kind devices event.line event.byte) devices events

unfoldable pub arrived : List LogEvent → Core → Core
arrived events core = record core { bus = received events core.bus }

-- 2. Clock and serial part advance by one tick.
unfoldable pub ticked : Core → Core
ticked core = record core { bus = bus.ticked core.bus }

-- 3. Cause takes the interrupt lines of the board and of the clock.
unfoldable pub sampled : Core → Core
sampled core =
    let lines = lines_of core.bus in record core { cop0 = control.sampled core.cop0 lines.board lines.clock }

-- 4. An interrupt is taken,
abbrev pub interrupted : Core → Core
interrupted core = entered core Interrupt

-- or one instruction is run. It reads its registers before the pending load lands.
abbrev pub operands_of : Core → Operation → Operands
operands_of core i = record {
  rs = register core i.rs;
  rt = register core i.rt;
  hi = core.hi;
  lo = core.lo;
  pc = core.pc;
}

-- Where it completes, the pending load lands, PC becomes next PC, and next PC the one after it.
abbrev pub passed : Core → Core
passed core = record core {
  registers = landed core.registers core.load;
  pc = core.next_pc;
  next_pc = sum_of core.next_pc 4;
  delay = false;
  load = None;
}

-- Then its own write is made, so it wins.
abbrev pub with_write : Core → (number value : ℕ) → Core
with_write core number value = record core { registers = with_register core.registers number value }

-- The value of a load waits in the slot.
abbrev pub with_slot : Core → (number value : ℕ) → Core
with_slot core number value = record core { load = slot_after_load number value }

-- A branch marks the next instruction as one in a delay slot, taken or not; the target comes after it.
abbrev pub branched : Core → Option ℕ → Core
branched core target = record core { next_pc = unwrap_or target core.next_pc; delay = true }

-- what the instruction leaves and reports, or its exception, with the processor as its access left it
pub record Raised : Type 0 where
  pub core : Core
  pub exception : Exception

abbrev pub raised : Core → Exception → Raised
raised core exception = record { core = core; exception = exception }

abbrev pub Completion : Type 0
Completion = Result Outcome Raised

-- an instruction that touches no memory but the page that it was fetched from
abbrev pub completion_without_access : State → (page : ℕ) → Effect → Core → Completion
completion_without_access s page effect core = Ok (record { state = record s { core = core }; done = completing page (destination_of effect) })

-- A load, by the processor as its access left it. One that merges keeps bytes of the register once the pending load has landed.
abbrev pub core_after_loading : Core → LoadKind → (number address : ℕ) → Result Loaded Exception → Core
core_after_loading core kind number address (Err exception) = core
core_after_loading core kind number address (Ok w) =
    with_slot (passed core) number (loaded kind (address % 4) w.word (register (passed core) number))

abbrev pub completion_of_load : State → ℕ → LoadKind → (number address : ℕ) → Result Loaded Exception → Completion
completion_of_load s page kind number address (Err exception) = Err (raised s.core exception)
completion_of_load s page kind number address (Ok w) = Ok (record {
  state = record s { core = core_after_loading s.core kind number address (Ok w) };
  done = loading page w.page number;
})

-- a store, into a word of RAM or into none
abbrev pub completion_of_store : State → ℕ → List ℕ → Result Stored Exception → Completion
completion_of_store s page words (Err exception) = Err (raised s.core exception)
completion_of_store s page words (Ok stored) = Ok (record {
  state = record { core = passed s.core; words = words };
  done = storing page stored;
})

-- an instruction by its effect
abbrev pub completion_of_effect : ℕ → State → ℕ → Effect → Completion
completion_of_effect pages s page (Write number value) = completion_without_access s page (Write number value) (with_write (passed s.core) number value)
completion_of_effect pages s page (WriteHi value) = completion_without_access s page (WriteHi value) (record (passed s.core) { hi = value })
completion_of_effect pages s page (WriteLo value) = completion_without_access s page (WriteLo value) (record (passed s.core) { lo = value })
completion_of_effect pages s page (WriteHiLo hi lo) = completion_without_access s page (WriteHiLo hi lo) (record (passed s.core) { hi = hi; lo = lo })
completion_of_effect pages s page (Jump target) = completion_without_access s page (Jump target) (branched (passed s.core) target)
completion_of_effect pages s page (JumpAndLink target number value) =
    completion_without_access s page (JumpAndLink target number value) (with_write (branched (passed s.core) target) number value)
completion_of_effect pages s page (Trap trap) = Err (raised s.core (exception_of trap))
completion_of_effect pages s page (Load kind number address) =
    completion_of_load (record s { core = core_after_load pages s.core kind address }) page kind number address (loaded_from pages s.words s.core kind address)
completion_of_effect pages s page (Store kind address value) =
    completion_of_store (record s { core = core_after_store pages s.core kind address value }) page (words_after s.words (stored_to pages s.core kind address value) (stored kind (address % 4) value)) (stored_to pages s.core kind address value)
completion_of_effect pages s page (MoveFromControl number control) =
    completion_without_access s page (MoveFromControl number control) (with_slot (passed s.core) number (register_of s.core.cop0 control))
completion_of_effect pages s page (MoveToControl control value) =
    completion_without_access s page (MoveToControl control value) (record (passed s.core) { cop0 = written s.core.cop0 control value })
completion_of_effect pages s page ReturnFromException =
    completion_without_access s page ReturnFromException (record (passed s.core) { cop0 = control.returned s.core.cop0 })
completion_of_effect pages s page ReadEntry = completion_without_access s page ReadEntry (with_entry_read (passed s.core))
completion_of_effect pages s page WriteIndexedEntry = completion_without_access s page WriteIndexedEntry (with_entry_written (passed s.core) INDEX)
completion_of_effect pages s page WriteRandomEntry = completion_without_access s page WriteRandomEntry (with_entry_written (passed s.core) RANDOM)
completion_of_effect pages s page ProbeEntry = completion_without_access s page ProbeEntry (with_probe (passed s.core))

-- the instruction of a word
abbrev pub completion_of_operation : ℕ → State → Word → Option Operation → Completion
completion_of_operation pages s w None = Err (raised s.core (without_row w.word))
completion_of_operation pages s w (Some i) = completion_of_effect pages s w.page (effect_of i (operands_of s.core i))

abbrev pub completion_of_word : ℕ → State → Word → Completion
completion_of_word pages s w =
    if is_unusable s.core w.word then Err (raised s.core (CoprocessorUnusable Cp0)) else completion_of_operation pages s w (operation_of w.word)

-- a call that completes an instruction, or leaves the words as they were, and the processor as the access left it
abbrev pub IsCompletion : Result Done Exception → State → State → Completion → Type 0
IsCompletion (Ok done) old new completion = completion ≡ Ok (record { state = new; done = done })
IsCompletion (Err exception) old new completion = (completion ≡ Err (raised new.core exception)) × (new.words ≡ old.words)

-- an exception in place of the instruction
abbrev pub outcome_of_exception : State → Option ℕ → Exception → Outcome
outcome_of_exception s page exception = record { state = record s { core = entered s.core exception }; done = fetching page }

abbrev pub outcome_of_completion : State → ℕ → Completion → Outcome
outcome_of_completion s page (Ok outcome) = outcome
outcome_of_completion s page (Err fault) =
    outcome_of_exception (record s { core = fault.core }) (Some page) fault.exception

abbrev pub outcome_of_word : ℕ → State → Word → Outcome
outcome_of_word pages s w = outcome_of_completion s w.page (completion_of_word pages s w)

abbrev pub outcome_of_fetch : ℕ → State → Result Word Exception → Outcome
outcome_of_fetch pages s (Err exception) = outcome_of_exception s None exception
outcome_of_fetch pages s (Ok w) = outcome_of_word pages s w

-- the instruction at PC
abbrev pub outcome_of_instruction : ℕ → State → Outcome
outcome_of_instruction pages s = outcome_of_fetch pages (record s { core = met s.core (meaning_of_fetch s.core) }) (fetched pages s.words s.core)

-- 5. Random falls by one.
abbrev pub fallen : Core → Core
fallen core = record core { cop0 = control.fallen core.cop0 }

-- the fourth part: an interrupt or an instruction
abbrev pub outcome_of_interrupt_or_instruction : ℕ → State → Outcome
outcome_of_interrupt_or_instruction pages s =
    if control.is_wanted s.core.cop0
    then record { state = record s { core = interrupted s.core }; done = fetching None }
    else outcome_of_instruction pages s

-- and the fifth
abbrev pub with_fall : Outcome → Outcome
with_fall o = record o { state = record o.state { core = fallen o.state.core } }

-- One step of a machine with n RAM pages, in which these events take effect: its five parts in their order.
unfoldable pub outcome_of_step : ℕ → List LogEvent → State → Outcome
outcome_of_step pages events s =
    with_fall (outcome_of_interrupt_or_instruction pages (record s { core = sampled (ticked (arrived events s.core)) }))

-- the state after a step, and what the step reports
abbrev pub next : ℕ → List LogEvent → State → State
next pages events s = (outcome_of_step pages events s).state

abbrev pub report : ℕ → List LogEvent → State → Done
report pages events s = (outcome_of_step pages events s).done
