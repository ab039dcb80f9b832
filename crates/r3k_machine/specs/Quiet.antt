-- Quiet steps (own): nothing comes before the instruction but ticks that only count, and the instruction touches registers, PC and
-- memory alone. So all ticks and falls of Random of many such steps may come after the last of them.
use Rattle.std.specs.Prelude.{◌≡◌, ℕ, ◌+◌, ◌-◌, ◌*◌, ◌/◌, ◌%◌, ◌^◌, ◌<◌, ◌≤◌, ◌⊎◌, Bool, false, true, IsFalse, IsTrue, List, Option, None, Some, Ok, slice_index}
use Rattle.r3k_word.specs.Layout.{page_of_place, place_of_word}
use Rattle.r3k_word.specs.Word.{sum_of}
use Rattle.r3k_word.specs.declared.layout.TheConstants.{PAGE_BYTES, PAGE_WORDS}
use Rattle.cop0.specs.Changes as control
use Rattle.cop0.specs.Changes.{StaysQuiet, returned}
use Rattle.cop0.specs.Registers.{written}
use Rattle.cop0.specs.Status as status
use Rattle.cop0.specs.Status.{in_user_mode, is_usable}
use Rattle.cop0.specs.declared.number.TheConstants.{ENTRY_LO, RANDOM, STATUS}
use Rattle.kn02_bus.specs.State.{BusState}
use Rattle.kn02_bus.specs.Lines.{lines_of}
use Rattle.kn02_bus.specs.Quiet.{after, quiet_of, steady_word}
use Rattle.kn02_bus.specs.Region.{region_of}
use Rattle.kn02_bus.specs.declared.region.Region.{Region}
use Rattle.kn02_bus.specs.declared.region.Region.TheVariants.{Device}
use Rattle.r3k_decode.specs.Operation.{Operation}
use Rattle.r3k_decode.specs.Decoding.{operation_of}
use Rattle.r3k_exec.specs.Effects.{effect_of}
use Rattle.r3k_exec.specs.declared.operands.Effect.{Effect}
use Rattle.r3k_exec.specs.declared.operands.Effect.TheVariants.{Write, WriteHi, WriteLo, WriteHiLo, Jump, JumpAndLink, Load, Store, MoveFromControl, MoveToControl, ReturnFromException}
use Rattle.r3k_machine.specs.declared.address.Physical.{Physical}
use Rattle.r3k_machine.specs.declared.address.TheConstants.{KSEG0, KSEG2}
use Rattle.r3k_machine.specs.declared.address.Use.TheVariants.{Fetch}
use Rattle.r3k_machine.specs.declared.load_store.Loaded.{Loaded}
use Rattle.r3k_machine.specs.declared.load_store.Word.{Word}
use Rattle.r3k_machine.specs.declared.flow.Flow.{Flow}
use Rattle.r3k_machine.specs.declared.quick.CodePage.{CodePage}
use Rattle.r3k_machine.specs.declared.quick.Next.{Next}
use Rattle.r3k_machine.specs.declared.quick.Next.TheVariants.{Word as NextWord, WordAfterHiLo, WordAfterNone, WordAfterLoad, DelaySlot}
use Rattle.r3k_machine.specs.Address.{Meaning, meaning}
use Rattle.r3k_machine.specs.Core.{Core}
use Rattle.r3k_machine.specs.State.{State}
use Rattle.r3k_machine.specs.Isolated.{is_isolated}
use Rattle.r3k_machine.specs.Exceptions.{is_unusable}
use Rattle.r3k_machine.specs.LoadStore.{meaning_of_fetch, meaning_of_load, meaning_of_store, ram_word, word_at}
use Rattle.r3k_machine.specs.Step.{Outcome, operands_of}

-- For n steps the ticks only count, and as long as Status and Cause stay no interrupt is wanted: Cause has the lines as they
-- are over these ticks.
pub record IsQuietFor (n : ℕ) (core : Core) : Type 0 where
  pub counts : n ≤ quiet_of core.bus
  pub sampled : control.sampled core.cop0 (lines_of core.bus).board (lines_of core.bus).clock ≡ core.cop0
  pub unwanted : IsFalse (control.is_wanted core.cop0)

-- after n ticks and falls of Random
abbrev pub elapsed : ℕ → Core → Core
elapsed n core = record core { bus = after n core.bus; cop0 = control.fallen_by n core.cop0 }

abbrev pub state_elapsed : ℕ → State → State
state_elapsed n s = record s { core = elapsed n s.core }

abbrev pub outcome_elapsed : ℕ → Outcome → Outcome
outcome_elapsed n o = record o { state = state_elapsed n o.state }

-- an address with one meaning, which is no slot of the isolated cache
pub record IsPlain (core : Core) (m : Meaning) (physical : Physical) : Type 0 where
  pub means : m ≡ record { several = false; answer = Ok physical }
  pub shared : IsFalse (is_isolated core physical)

-- the physical address that an address means, where it has one meaning
abbrev pub IsMeant : Meaning → (address : ℕ) → Type 0
IsMeant m address = (cacheable : Bool) × (m ≡ record { several = false; answer = Ok (record { address = address; cacheable = cacheable }) })

-- the physical address that an address reaches over the bus
pub record IsReached (core : Core) (m : Meaning) (address : ℕ) : Type 0 where
  pub cacheable : Bool
  pub plain : IsPlain core m (record { address = address; cacheable = cacheable })

-- What a load over the bus gives, where it is the same before ticks that only count and after them: a word of RAM or ROM, or of a
-- device's register that is steady.
abbrev pub steady_of : BusState → Region → Option ℕ
steady_of bus (Device device) = steady_word bus device
steady_of bus region = None

abbrev pub steady_elsewhere : Option ℕ → Option Loaded
steady_elsewhere None = None
steady_elsewhere (Some word) = Some (record { word = word; page = None })

abbrev pub steady_over_bus : List ℕ → BusState → Region → Option ℕ → Option Loaded
steady_over_bus words bus region (Some place) = Some (record { word = slice_index words place; page = Some (page_of_place place) })
steady_over_bus words bus region None = steady_elsewhere (steady_of bus region)

-- An effect on registers, EntryLo, Status, PC and memory alone: loads are of such a word, and stores of one of RAM. Of coprocessor 0,
-- Random is not read, and Status is changed only where mode and cache stay as they are and no interrupt comes to be wanted.
abbrev pub IsQuickEffect : ℕ → State → Effect → Type 0
IsQuickEffect pages s (Write number value) = Unit {0}
IsQuickEffect pages s (WriteHi value) = Unit {0}
IsQuickEffect pages s (WriteLo value) = Unit {0}
IsQuickEffect pages s (WriteHiLo hi lo) = Unit {0}
IsQuickEffect pages s (Jump target) = Unit {0}
IsQuickEffect pages s (JumpAndLink target number value) = Unit {0}
IsQuickEffect pages s (Load kind number address) =
    (physical : Physical) × (loaded : Loaded) × IsPlain s.core (meaning_of_load s.core kind address) physical
    × (steady_over_bus s.words s.core.bus (region_of pages physical.address) (place_of_word pages (physical.address / 4 * 4)) ≡ Some loaded)
IsQuickEffect pages s (Store kind address value) =
    (physical : Physical) × (word : ℕ) × IsPlain s.core (meaning_of_store s.core kind address) physical
    × (ram_word pages physical.address ≡ Some word)
IsQuickEffect pages s (MoveFromControl number control) = (¬ (control ≡ RANDOM)) × IsTrue (is_usable s.core.cop0)
IsQuickEffect pages s (MoveToControl control value) =
    ((control ≡ ENTRY_LO) ⊎ ((control ≡ STATUS) × StaysQuiet s.core.cop0 (written s.core.cop0 STATUS value))) × IsTrue (is_usable s.core.cop0)
IsQuickEffect pages s ReturnFromException = StaysQuiet s.core.cop0 (returned s.core.cop0) × IsTrue (is_usable s.core.cop0)
IsQuickEffect pages s effect = ⊥

-- the instruction at PC has such an effect
pub record IsQuick (pages : ℕ) (s : State) : Type 0 where
  pub physical : Physical
  pub fetched : Word
  pub operation : Operation
  pub means : meaning_of_fetch s.core ≡ record { several = false; answer = Ok physical }
  pub stands : word_at pages s.words physical.address ≡ Some fetched
  pub usable : IsFalse (is_unusable s.core fetched.word)
  pub decoded : operation_of fetched.word ≡ Some operation
  pub effect : IsQuickEffect pages s (effect_of operation (operands_of s.core operation))

-- all words of a virtual page are fetched from a page of memory
abbrev pub IsFetchedFrom : ℕ → Core → (number page : ℕ) → Type 0
IsFetchedFrom pages core number page = (address : ℕ) → address / PAGE_BYTES ≡ number → address % 4 ≡ 0
    → (physical : Physical) × (meaning core Fetch true address ≡ record { several = false; answer = Ok physical })
    × (place_of_word pages (physical.address / 4 * 4) ≡ Some (page * PAGE_WORDS + address % PAGE_BYTES / 4))

-- loads and stores of kseg0 and kseg1 go over the bus
pub record GoesOverBus (core : Core) : Type 0 where
  pub kernel : IsFalse (in_user_mode core.cop0)
  pub shared : IsFalse (status.is_isolated core.cop0)

-- so do those of the first n bytes from kseg0 on
pub record IsOverBusFor (n : ℕ) (core : Core) : Type 0 where
  pub within : n ≤ KSEG2 - KSEG0
  pub over : 0 < n → GoesOverBus core

-- wherever they do, all words of a virtual page are fetched from one page of memory
abbrev pub IsFetchedOverBus : ℕ → (number page : ℕ) → Type 0
IsFetchedOverBus pages number page = (core : Core) → GoesOverBus core → IsFetchedFrom pages core number page

-- a page that is run in
pub record IsCodePage (pages : ℕ) (core : Core) (page : CodePage) : Type 0 where
  pub within : page.number < 2 ^ 20
  pub fetched : IsFetchedFrom pages core page.number page.page
  pub over_bus : IsOverBusFor page.over_bus core

-- the number in the page of the word at an aligned address
pub record IsIndexIn (page : CodePage) (address index : ℕ) : Type 0 where
  pub here : address / PAGE_BYTES ≡ page.number
  pub aligned : address % 4 ≡ 0
  pub is : index ≡ address % PAGE_BYTES / 4

-- a step comes to the next instruction, and if that stands in no delay slot, the one after it follows it
pub record LeadsOn (old new : Core) : Type 0 where
  pub here : new.pc ≡ old.next_pc
  pub next : IsFalse new.delay → new.next_pc ≡ sum_of new.pc 4

-- a step leaves translation entries, caches and devices as they are
pub record LeavesRest (old new : Core) : Type 0 where
  pub entries : new.entries ≡ old.entries
  pub caches : new.caches ≡ old.caches
  pub bus : new.bus ≡ old.bus

-- what a quick step leaves next: the next word, with no load pending, or maybe with one, or the word in a delay slot
abbrev pub Leaves : Next → Flow → Type 0
Leaves NextWord flow = (flow.slot ≡ 0) × IsFalse flow.delay
Leaves WordAfterHiLo flow = (flow.slot ≡ 0) × IsFalse flow.delay
Leaves WordAfterNone flow = (flow.slot ≡ 0) × IsFalse flow.delay
Leaves WordAfterLoad flow = IsFalse flow.delay
Leaves DelaySlot flow = IsTrue flow.delay

-- what is known of words is as it was after a quick step, but for one that may have stored
abbrev pub Knows : Next → (old new : ℕ → ℕ → Operation) → Type 0
Knows NextWord old new = new ≡ old
Knows WordAfterHiLo old new = new ≡ old
Knows WordAfterNone old new = Unit {0}
Knows WordAfterLoad old new = new ≡ old
Knows DelaySlot old new = new ≡ old
