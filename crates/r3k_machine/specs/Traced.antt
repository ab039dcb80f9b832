-- The trace of a step (project rule): what the step fetched, wrote, loaded, stored and sent, where it transferred control to, and the
-- exception that it took. The trace is made of the step's own parts: of what its instruction completed with, and of what it reports.
use Rattle.std.specs.Prelude.{◌≡◌, ℕ, zero, suc, ◌+◌, ◌*◌, ◌/◌, ◌%◌, ◌&&◌, not, nat_le, List, [], ◌∷◌, ◌++◌, Bool, false, true, Option, Some, None, Result, Ok, Err, if◌then◌else◌, slice_index}
use Rattle.cop0.specs.Changes.{is_wanted}
use Rattle.cop0.specs.Status.{is_shut_down}
use Rattle.input_log.specs.Event.{LogEvent}
use Rattle.kn02_bus.specs.Region.{region_of}
use Rattle.kn02_bus.specs.declared.region.Region.{Region}
use Rattle.kn02_bus.specs.declared.region.Region.TheVariants.{Rom, Unassigned}
use Rattle.r3k_table.specs.Mnemonics.{mnemonic_of}
use Rattle.r3k_table.specs.declared.mnemonic.Mnemonic.{Mnemonic}
use Rattle.r3k_table.specs.declared.mnemonic.Mnemonic.TheVariants.{Jr}
use Rattle.r3k_decode.specs.Operation.{Operation}
use Rattle.r3k_decode.specs.Decoding.{operation_of}
use Rattle.r3k_exec.specs.Access.{stored}
use Rattle.r3k_exec.specs.Effects.{effect_of}
use Rattle.r3k_exec.specs.declared.access.Covered.{Covered}
use Rattle.r3k_exec.specs.declared.operands.Effect.{Effect}
use Rattle.r3k_exec.specs.declared.operands.Effect.TheVariants.{Jump, JumpAndLink, Load, Store, ReturnFromException}
use Rattle.r3k_image.specs.Boot.{Boot}
use Rattle.r3k_word.specs.declared.arithmetic.HiLo.{HiLo}
use Rattle.r3k_machine.specs.declared.address.Physical.{Physical}
use Rattle.r3k_machine.specs.declared.address.Where.{Where}
use Rattle.r3k_machine.specs.declared.address.Where.TheVariants.{Cached, Uncached}
use Rattle.r3k_machine.specs.declared.exception.Exception.{Exception}
use Rattle.r3k_machine.specs.declared.exception.Exception.TheVariants.{Interrupt}
use Rattle.r3k_machine.specs.declared.load_store.Loaded.{Loaded}
use Rattle.r3k_machine.specs.declared.load_store.Word.{Word}
use Rattle.r3k_machine.specs.declared.traced.Access.{Access}
use Rattle.r3k_machine.specs.declared.traced.AccessKind.{AccessKind}
use Rattle.r3k_machine.specs.declared.traced.AccessKind.TheVariants as access
use Rattle.r3k_machine.specs.declared.traced.Reach.{Reach}
use Rattle.r3k_machine.specs.declared.traced.Reach.TheVariants.{Bus, Isolated, Ignored}
use Rattle.r3k_machine.specs.declared.traced.RegisterWrite.{RegisterWrite}
use Rattle.r3k_machine.specs.declared.traced.Traced.{Traced}
use Rattle.r3k_machine.specs.declared.traced.Transfer.{Transfer}
use Rattle.r3k_machine.specs.Address.{met, where_at}
use Rattle.r3k_machine.specs.Core.{Core}
use Rattle.r3k_machine.specs.Exceptions.{code_of, entered}
use Rattle.r3k_machine.specs.Isolated.{is_isolated}
use Rattle.r3k_machine.specs.LoadSlot.{DelayedLoad}
use Rattle.r3k_machine.specs.LoadStore.{fetched, loaded_from, meaning_of_fetch}
use Rattle.r3k_machine.specs.Run.{arriving, state_at}
use Rattle.r3k_machine.specs.State.{State}
use Rattle.r3k_machine.specs.Step.{Completion, Outcome, arrived, completion_of_word, fetching, next, operands_of, sampled, ticked}

-- Registers written. The step's report names them, and the processor after the step holds the values. The value of a load or of a move
-- from coprocessor 0 waits in the load slot; it is never written back if the next instruction writes the register too.
abbrev pub value_written : Option DelayedLoad → (registers : List ℕ) → (number : ℕ) → ℕ
value_written None registers number = slice_index registers number
value_written (Some load) registers number = load.value

abbrev pub write_of : (wrote : ℕ) → Core → Option RegisterWrite
write_of wrote after =
    if nat_le 1 wrote && nat_le wrote 31
    then Some (record { register = wrote; value = value_written after.load after.registers wrote })
    else None

-- HI and LO after a step that wrote one of them or both
abbrev pub hi_lo_of : (wrote : ℕ) → Core → Option HiLo
hi_lo_of wrote after = if nat_le 32 wrote then Some (record { hi = after.hi; lo = after.lo }) else None

-- What an access reaches. With IsC set, a cacheable access reaches the isolated cache alone. A store to ROM or to an unassigned address is
-- ignored.
abbrev pub reach_over_bus : AccessKind → Region → Reach
reach_over_bus access.Store Rom = Ignored
reach_over_bus access.Store Unassigned = Ignored
reach_over_bus kind region = Bus

abbrev pub reach_of : (pages : ℕ) → Core → AccessKind → Physical → Reach
reach_of pages core kind physical =
    if is_isolated core physical then Isolated else reach_over_bus kind (region_of pages physical.address)

-- The access of the word that a physical address lies in, without its value.
abbrev pub access_to : (pages : ℕ) → Core → AccessKind → Physical → Access
access_to pages core kind physical =
    record { kind = kind; reach = reach_of pages core kind physical; address = physical.address / 4 * 4; word = 0 }

abbrev pub access_at : (pages : ℕ) → Core → AccessKind → Where → Option Access
access_at pages core kind (Cached physical) = Some (access_to pages core kind (record { address = physical; cacheable = true }))
access_at pages core kind (Uncached physical) = Some (access_to pages core kind (record { address = physical; cacheable = false }))
access_at pages core kind place = None

abbrev pub with_word : (word : ℕ) → Option Access → Option Access
with_word word None = None
with_word word (Some access) = Some (record access { word = word })

-- the word that a load returned
abbrev pub word_got : Result Loaded Exception → ℕ
word_got (Ok loaded) = loaded.word
word_got (Err exception) = 0

-- The word that a store left in RAM. For a store that went elsewhere: the stored bytes in their lanes, and 0 in the other lanes.
abbrev pub word_left : (words : List ℕ) → Option ℕ → Covered → ℕ
word_left words (Some address) covered = slice_index words (address / 4)
word_left words None covered = covered.word

-- the effect of an instruction, if its word has a row
abbrev pub effect_at : Core → Option Operation → Option Effect
effect_at core None = None
effect_at core (Some i) = Some (effect_of i (operands_of core i))

-- the word that an instruction loaded from or stored into
abbrev pub access_of : (pages : ℕ) → (before : State) → Option Effect → Outcome → Option Access
access_of pages s (Some (Load kind number address)) o =
    with_word (word_got (loaded_from pages s.words s.core kind address)) (access_at pages s.core access.Load (where_at s.core address))
access_of pages s (Some (Store kind address value)) o =
    with_word (word_left o.state.words o.done.stored (stored kind (address % 4) value)) (access_at pages s.core access.Store (where_at s.core address))
access_of pages s effect o = None

-- Transfers of control. A branch transfers control if it is taken, whatever its target. A branch without a link and `j` are local: they
-- stay within a function, as a rule. `jr` is not, because functions return by it. `rfe` leads to the PC after its step.
abbrev pub jumps_locally : Mnemonic → Bool
jumps_locally Jr = false
jumps_locally name = true

abbrev pub is_local : Option Operation → Bool
is_local None = false
is_local (Some i) = jumps_locally (mnemonic_of i.row)

abbrev pub transfer_to : (local : Bool) → Option ℕ → Option Transfer
transfer_to local None = None
transfer_to local (Some target) = Some (record { to = target; local = local })

abbrev pub transfer_of : (local : Bool) → Option Effect → Core → Option Transfer
transfer_of local (Some (Jump target)) after = transfer_to local target
transfer_of local (Some (JumpAndLink target number value)) after = transfer_to false target
transfer_of local (Some ReturnFromException) after = Some (record { to = after.pc; local = false })
transfer_of local effect after = None

-- an instruction that completed
abbrev pub did : (pages : ℕ) → (before : State) → Word → Option Operation → Outcome → Traced
did pages s w i o = record {
  pc = s.core.pc;
  word = Some w.word;
  write = write_of o.done.wrote o.state.core;
  hi_lo = hi_lo_of o.done.wrote o.state.core;
  access = access_of pages s (effect_at s.core i) o;
  transfer = transfer_of (is_local i) (effect_at s.core i) o.state.core;
  done = o.done;
  shuts_down = false;
  exception = None;
}

-- An exception in place of the instruction at PC, whose word was fetched from a page or was not fetched. It transfers control to its vector.
abbrev pub took : Core → (word page : Option ℕ) → Exception → Traced
took core word page exception = record {
  pc = core.pc;
  word = word;
  write = None;
  hi_lo = None;
  access = None;
  transfer = Some (record { to = (entered core exception).pc; local = false });
  done = fetching page;
  shuts_down = false;
  exception = Some (code_of exception);
}

-- an instruction that was fetched, by how it ended
abbrev pub traced_completion : (pages : ℕ) → State → Word → Completion → Traced
traced_completion pages s w (Ok o) = did pages s w (operation_of w.word) o
traced_completion pages s w (Err fault) = took fault.core (Some w.word) (Some w.page) fault.exception

abbrev pub traced_fetch : (pages : ℕ) → State → Result Word Exception → Traced
traced_fetch pages s (Err exception) = took s.core None None exception
traced_fetch pages s (Ok w) = traced_completion pages s w (completion_of_word pages s w)

-- the instruction at PC
abbrev pub traced_instruction : (pages : ℕ) → State → Traced
traced_instruction pages s =
    traced_fetch pages (record s { core = met s.core (meaning_of_fetch s.core) }) (fetched pages s.words s.core)

-- an interrupt or an instruction
abbrev pub traced_interrupt_or_instruction : (pages : ℕ) → State → Traced
traced_interrupt_or_instruction pages s =
    if is_wanted s.core.cop0 then took s.core None None Interrupt else traced_instruction pages s

-- whether TS becomes 1 in a step
abbrev pub shuts_down : (before after : Core) → Bool
shuts_down before after = not (is_shut_down before.cop0) && is_shut_down after.cop0

-- the trace of a step in which these events take effect
unfoldable pub traced : (pages : ℕ) → List LogEvent → State → Traced
traced pages events s =
    record (traced_interrupt_or_instruction pages (record s { core = sampled (ticked (arrived events s.core)) })) {
      shuts_down = shuts_down s.core (next pages events s).core;
    }

-- a step that wrote, loaded, stored and sent nothing
pub record DidNothing (t : Traced) : Type 0 where
  pub write : t.write ≡ None
  pub hi_lo : t.hi_lo ≡ None
  pub access : t.access ≡ None
  pub wrote : t.done.wrote ≡ 0
  pub stored : t.done.stored ≡ None
  pub sent : t.done.sent ≡ None

-- the trace of the step at a position of the run from reset, and of each of a number of steps from that position on
abbrev pub traced_at : (pages : ℕ) → Boot → List LogEvent → (position : ℕ) → Traced
traced_at pages image log position = traced pages (arriving log position) (state_at pages image log position)

unfoldable pub traces_at : (pages : ℕ) → Boot → List LogEvent → (position count : ℕ) → List Traced
traces_at pages image log position zero = []
traces_at pages image log position (suc n) = traces_at pages image log position n ++ traced_at pages image log (position + n) ∷ []
