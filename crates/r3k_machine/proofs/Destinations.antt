-- A step leaves each register that its report does not name as the pending load left it, and its trace agrees with its report.
use Rattle.std.proofs.Common.{◌≡◌, ◌∙◌, ℕ, ◌/◌, ◌%◌, ◌*◌, Bool, true, false, List, Option, Some, None, Result, Ok, Err, IfSome, IsTrue, nat_eq, slice_index, if◌then◌else◌, inl, inr, refl, sym, ap}
use Rattle.std.proofs.lemmas.Bool.{cases_Bool}
use Rattle.std.proofs.lemmas.List.{get_or-set_other}
use Rattle.cop0.specs.Changes as control
use Rattle.cop0.specs.Registers.{register_of}
use Rattle.input_log.specs.Event.{LogEvent}
use Rattle.kn02_bus.specs.Region.{region_of}
use Rattle.kn02_bus.specs.declared.region.Region.{Region}
use Rattle.kn02_bus.specs.declared.region.Region.TheVariants.{Ram, Rom, Device, Unassigned}
use Rattle.tlb64.specs.Lookup.{probe_of}
use Rattle.tlb64.specs.declared.entry.Found.{Found}
use Rattle.r3k_word.specs.Layout.{place_of_word}
use Rattle.r3k_decode.specs.Operation.{Operation}
use Rattle.r3k_decode.specs.Decoding.{operation_of}
use Rattle.r3k_exec.specs.Access.{loaded, stored}
use Rattle.r3k_exec.specs.Effects.{effect_of}
use Rattle.r3k_exec.specs.declared.access.Covered.{Covered}
use Rattle.r3k_exec.specs.declared.access.LoadKind.{LoadKind}
use Rattle.r3k_exec.specs.declared.access.StoreKind.{StoreKind}
use Rattle.r3k_exec.specs.declared.operands.Effect.{Effect}
use Rattle.r3k_exec.specs.declared.operands.Effect.TheVariants.{Write, WriteHi, WriteLo, WriteHiLo, Jump, JumpAndLink, Trap, Load, Store, MoveFromControl, MoveToControl, ReadEntry, WriteIndexedEntry, WriteRandomEntry, ProbeEntry, ReturnFromException}
use Rattle.r3k_machine.specs.declared.address.Physical.{Physical}
use Rattle.r3k_machine.specs.declared.exception.Exception.{Exception}
use Rattle.r3k_machine.specs.declared.load_store.Loaded.{Loaded}
use Rattle.r3k_machine.specs.declared.load_store.Stored.{Stored}
use Rattle.r3k_machine.specs.declared.load_store.Word.{Word}
use Rattle.r3k_machine.specs.declared.traced.Traced.{Traced}
use Rattle.r3k_machine.specs.Core.{Core}
use Rattle.r3k_machine.specs.State.{State, landed, register, with_register}
use Rattle.r3k_machine.specs.LoadSlot.{DelayedLoad, slot_after_load}
use Rattle.r3k_machine.specs.Address.{Meaning, met}
use Rattle.r3k_machine.specs.Exceptions.{is_unusable}
use Rattle.r3k_machine.specs.Isolated.{is_isolated, with_isolated_load, with_isolated_store}
use Rattle.r3k_machine.specs.LoadStore.{after_load, after_load_over_bus, after_store, after_store_over_bus, core_after_load, core_after_store, fetched, loaded_from, meaning_of_fetch, meaning_of_load, meaning_of_store, ram_word, stored_to, words_after}
use Rattle.r3k_machine.specs.Devices.{with_device_load, with_device_store}
use Rattle.r3k_machine.specs.Run.{is_written}
use Rattle.r3k_machine.specs.Translation.{with_found}
use Rattle.r3k_machine.specs.Step.{Completion, Outcome, arrived, completion_of_effect, completion_of_load, completion_of_operation, completion_of_store, completion_of_word, next, operands_of, outcome_of_completion, outcome_of_exception, outcome_of_fetch, outcome_of_instruction, outcome_of_interrupt_or_instruction, outcome_of_step, passed, report, sampled, ticked, with_fall}
use Rattle.r3k_machine.specs.Traced.{hi_lo_of, traced, traced_completion, traced_fetch, traced_instruction, traced_interrupt_or_instruction, write_of, DidNothing, shuts_down}

-- a processor whose registers and pending load are those of another one
record SameRegisters (old new : Core) : Type 0 where
  registers : new.registers ≡ old.registers
  load : new.load ≡ old.load
  hi : new.hi ≡ old.hi
  lo : new.lo ≡ old.lo

alike : (core : Core) → SameRegisters core core
alike core = record { registers = refl; load = refl; hi = refl; lo = refl }

-- an access keeps them
device_loads : (core : Core) (region : Region) → SameRegisters core (with_device_load core region)
device_loads core Ram = alike core
device_loads core Rom = alike core
device_loads core (Device device) = record { registers = refl; load = refl; hi = refl; lo = refl }
device_loads core Unassigned = alike core

device_stores : (core : Core) (region : Region) (covered : Covered) → SameRegisters core (with_device_store core region covered)
device_stores core Ram covered = alike core
device_stores core Rom covered = alike core
device_stores core (Device device) covered = record { registers = refl; load = refl; hi = refl; lo = refl }
device_stores core Unassigned covered = alike core

bus_loads : (core : Core) (region : Region) (place : Option ℕ) → SameRegisters core (after_load_over_bus core region place)
bus_loads core region None = device_loads core region
bus_loads core region (Some place) = alike core

bus_stores : (core : Core) (region : Region) (covered : Covered) (place : Option ℕ) → SameRegisters core (after_store_over_bus core region covered place)
bus_stores core region covered None = device_stores core region covered
bus_stores core region covered (Some place) = alike core

either : (core a b : Core) (isolated : Bool) → SameRegisters core a → SameRegisters core b → SameRegisters core (if isolated then a else b)
either core a b true first second = first
either core a b false first second = second

loads_at : (pages : ℕ) (core : Core) (answer : Result Physical Exception) → SameRegisters core (after_load pages core answer)
loads_at pages core (Err exception) = alike core
loads_at pages core (Ok physical) =
    either core (with_isolated_load core physical.address) (after_load_over_bus core (region_of pages physical.address) (place_of_word pages (physical.address / 4 * 4)))
    (is_isolated core physical) (record { registers = refl; load = refl; hi = refl; lo = refl })
    (bus_loads core (region_of pages physical.address) (place_of_word pages (physical.address / 4 * 4)))

stores_at : (pages : ℕ) (core : Core) (kind : StoreKind) (address value : ℕ) (answer : Result Physical Exception)
    → SameRegisters core (after_store pages core kind address value answer)
stores_at pages core kind address value (Err exception) = alike core
stores_at pages core kind address value (Ok physical) =
    either core (with_isolated_store core kind physical.address value)
    (after_store_over_bus core (region_of pages physical.address) (stored kind (address % 4) value) (ram_word pages physical.address))
    (is_isolated core physical) (record { registers = refl; load = refl; hi = refl; lo = refl })
    (bus_stores core (region_of pages physical.address) (stored kind (address % 4) value) (ram_word pages physical.address))

-- the meaning of an address keeps them
meets : (core : Core) (m : Meaning) → SameRegisters core (met core m)
meets core m =
    elim (cases_Bool m.several) [
      | inl several ↦ rw several (record { registers = refl; load = refl; hi = refl; lo = refl })
      | inr alone ↦ rw alone (alike core)
    ]

then_same : (a b c : Core) → SameRegisters a b → SameRegisters b c → SameRegisters a c
then_same a b c first second = record {
  registers = second.registers ∙ first.registers;
  load = second.load ∙ first.load;
  hi = second.hi ∙ first.hi;
  lo = second.lo ∙ first.lo;
}

loads : (pages : ℕ) (core : Core) (kind : LoadKind) (address : ℕ) → SameRegisters core (core_after_load pages core kind address)
loads pages core kind address =
    let m = meaning_of_load core kind address in
    then_same core (met core m) (after_load pages (met core m) m.answer) (meets core m) (loads_at pages (met core m) m.answer)

stores : (pages : ℕ) (core : Core) (kind : StoreKind) (address value : ℕ) → SameRegisters core (core_after_store pages core kind address value)
stores pages core kind address value =
    let m = meaning_of_store core kind address in
    then_same core (met core m) (after_store pages (met core m) kind address value m.answer) (meets core m)
    (stores_at pages (met core m) kind address value m.answer)

-- a register beside one that is written
beside : (registers : List ℕ) (number value other : ℕ) → ¬ (other ≡ number) → slice_index (with_register registers number value) other ≡ slice_index registers other
beside registers number value other apart =
    elim (cases_Bool (nat_eq number 0)) [
      | inl zero ↦ rw zero refl
      | inr some ↦ rw some (get_or-set_other registers number other value 0 apart)
    ]

-- the register of a load that waits
waits : (number value : ℕ) → IfSome (slot_after_load number value) (λ load. load.register ≡ number)
waits number value = elim (cases_Bool (nat_eq number 0)) [ inl zero ↦ rw zero tt | inr some ↦ rw some refl ]

-- the probe of `tlbp` keeps them
finds : (core : Core) (o : Option Found) → SameRegisters core (with_found core o)
finds core None = record { registers = refl; load = refl; hi = refl; lo = refl }
finds core (Some found) =
    elim (cases_Bool found.several) [
      | inl several ↦ rw several (record { registers = refl; load = refl; hi = refl; lo = refl })
      | inr alone ↦ rw alone (record { registers = refl; load = refl; hi = refl; lo = refl })
    ]

-- What an outcome leaves, from a processor: each register that it does not name, and a pending load of one that it names.
record Leaves (before : Core) (o : Outcome) : Type 0 where
  registers : (number : ℕ) → ¬ (number ≡ o.done.wrote) → register o.state.core number ≡ slice_index (landed before.registers before.load) number
  hi : ¬ IsTrue (is_written 32 o.done.wrote) → o.state.core.hi ≡ before.hi
  lo : ¬ IsTrue (is_written 33 o.done.wrote) → o.state.core.lo ≡ before.lo
  slot : IfSome o.state.core.load (λ load. load.register ≡ o.done.wrote)

landed_alike : (old new : Core) → SameRegisters old new → landed new.registers new.load ≡ landed old.registers old.load
landed_alike old new s = rw (s.registers, s.load) refl

-- an exception lets the pending load be written back, and writes nothing
excepts : (before : Core) (s : State) (page : Option ℕ) (exception : Exception) → SameRegisters before s.core → Leaves before (outcome_of_exception s page exception)
excepts before s page exception same = record {
  registers = λ number apart. ap (λ (r : List ℕ). slice_index r number) (landed_alike before s.core same);
  hi = λ apart. same.hi;
  lo = λ apart. same.lo;
  slot = tt;
}

-- a completion leaves them, or its exception does
abbrev Completes : (before : Core) → Completion → Type 0
Completes before (Ok o) = Leaves before o
Completes before (Err fault) = SameRegisters before fault.core

load_completes : (before : Core) (s : State) (page : ℕ) (kind : LoadKind) (number address : ℕ) (r : Result Loaded Exception) → SameRegisters before s.core
    → Completes before (completion_of_load s page kind number address r)
load_completes before s page kind number address (Err exception) same = same
load_completes before s page kind number address (Ok w) same = record {
  registers = λ other apart. ap (λ (r : List ℕ). slice_index r other) (landed_alike before s.core same);
  hi = λ apart. same.hi;
  lo = λ apart. same.lo;
  slot = waits number (loaded kind (address % 4) w.word (slice_index (landed s.core.registers s.core.load) number));
}

store_completes : (before : Core) (s : State) (page : ℕ) (words : List ℕ) (r : Result Stored Exception) → SameRegisters before s.core
    → Completes before (completion_of_store s page words r)
store_completes before s page words (Err exception) same = same
store_completes before s page words (Ok stored) same = record {
  registers = λ other apart. ap (λ (r : List ℕ). slice_index r other) (landed_alike before s.core same);
  hi = λ apart. same.hi;
  lo = λ apart. same.lo;
  slot = tt;
}

effect_completes : (pages : ℕ) (s : State) (page : ℕ) (effect : Effect) → Completes s.core (completion_of_effect pages s page effect)
effect_completes pages s page (Write number value) = record {
  registers = λ other apart. beside (landed s.core.registers s.core.load) number value other apart;
  hi = λ apart. refl;
  lo = λ apart. refl;
  slot = tt;
}
effect_completes pages s page (WriteHi value) = record {
  registers = λ other apart. refl;
  hi = λ apart. absurd (apart refl);
  lo = λ apart. refl;
  slot = tt;
}
effect_completes pages s page (WriteLo value) = record {
  registers = λ other apart. refl;
  hi = λ apart. refl;
  lo = λ apart. absurd (apart refl);
  slot = tt;
}
effect_completes pages s page (WriteHiLo hi lo) = record {
  registers = λ other apart. refl;
  hi = λ apart. absurd (apart refl);
  lo = λ apart. absurd (apart refl);
  slot = tt;
}
effect_completes pages s page (Jump target) = record { registers = λ other apart. refl; hi = λ apart. refl; lo = λ apart. refl; slot = tt }
effect_completes pages s page (JumpAndLink target number value) = record {
  registers = λ other apart. beside (landed s.core.registers s.core.load) number value other apart;
  hi = λ apart. refl;
  lo = λ apart. refl;
  slot = tt;
}
effect_completes pages s page (Trap trap) = alike s.core
effect_completes pages s page (Load kind number address) =
    load_completes s.core (record s { core = core_after_load pages s.core kind address }) page kind number address
    (loaded_from pages s.words s.core kind address) (loads pages s.core kind address)
effect_completes pages s page (Store kind address value) =
    store_completes s.core (record s { core = core_after_store pages s.core kind address value }) page
    (words_after s.words (stored_to pages s.core kind address value) (stored kind (address % 4) value))
    (stored_to pages s.core kind address value) (stores pages s.core kind address value)
effect_completes pages s page (MoveFromControl number control) = record {
  registers = λ other apart. refl;
  hi = λ apart. refl;
  lo = λ apart. refl;
  slot = waits number (register_of s.core.cop0 control);
}
effect_completes pages s page (MoveToControl control value) = record { registers = λ other apart. refl; hi = λ apart. refl; lo = λ apart. refl; slot = tt }
effect_completes pages s page ReturnFromException = record { registers = λ other apart. refl; hi = λ apart. refl; lo = λ apart. refl; slot = tt }
effect_completes pages s page ReadEntry = record { registers = λ other apart. refl; hi = λ apart. refl; lo = λ apart. refl; slot = tt }
effect_completes pages s page WriteIndexedEntry = record { registers = λ other apart. refl; hi = λ apart. refl; lo = λ apart. refl; slot = tt }
effect_completes pages s page WriteRandomEntry = record { registers = λ other apart. refl; hi = λ apart. refl; lo = λ apart. refl; slot = tt }
effect_completes pages s page ProbeEntry =
    let same = finds (passed s.core) (probe_of s.core.entries s.core.cop0.entry_hi) in record {
      registers = λ other apart. ap (λ (r : List ℕ). slice_index r other) same.registers;
      hi = λ apart. same.hi;
      lo = λ apart. same.lo;
      slot = rw same.load tt;
    }

operation_completes : (pages : ℕ) (s : State) (w : Word) (operation : Option Operation) → Completes s.core (completion_of_operation pages s w operation)
operation_completes pages s w None = alike s.core
operation_completes pages s w (Some operation) = effect_completes pages s w.page (effect_of operation (operands_of s.core operation))

word_completes : (pages : ℕ) (s : State) (w : Word) → Completes s.core (completion_of_word pages s w)
word_completes pages s w =
    elim (cases_Bool (is_unusable s.core w.word)) [
      | inl unusable ↦ rw unusable (alike s.core)
      | inr usable ↦ rw usable (operation_completes pages s w (operation_of w.word))
    ]

completion_leaves : (before : Core) (s : State) (page : ℕ) (c : Completion) → Completes before c → Leaves before (outcome_of_completion s page c)
completion_leaves before s page (Ok o) done = done
completion_leaves before s page (Err fault) same = excepts before (record s { core = fault.core }) (Some page) fault.exception same

fetch_leaves : (pages : ℕ) (s : State) (r : Result Word Exception) → Leaves s.core (outcome_of_fetch pages s r)
fetch_leaves pages s (Err exception) = excepts s.core s None exception (alike s.core)
fetch_leaves pages s (Ok w) = completion_leaves s.core s w.page (completion_of_word pages s w) (word_completes pages s w)

-- from a processor with the same registers and pending load
from_same : (before after : Core) (o : Outcome) → SameRegisters before after → Leaves after o → Leaves before o
from_same before after o same l = record {
  registers = λ number apart. l.registers number apart ∙ ap (λ (r : List ℕ). slice_index r number) (landed_alike before after same);
  hi = λ apart. l.hi apart ∙ same.hi;
  lo = λ apart. l.lo apart ∙ same.lo;
  slot = l.slot;
}

instruction_leaves : (pages : ℕ) (s : State) → Leaves s.core (outcome_of_instruction pages s)
instruction_leaves pages s =
    let m = meaning_of_fetch s.core in
    let o = outcome_of_fetch pages (record s { core = met s.core m }) (fetched pages s.words s.core) in
    from_same s.core (met s.core m) o (meets s.core m)
    (fetch_leaves pages (record s { core = met s.core m }) (fetched pages s.words s.core))

turn_leaves : (pages : ℕ) (s : State) → Leaves s.core (outcome_of_interrupt_or_instruction pages s)
turn_leaves pages s =
    elim (cases_Bool (control.is_wanted s.core.cop0)) [
      | inl wanted ↦ rw wanted (record { registers = λ number apart. refl; hi = λ apart. refl; lo = λ apart. refl; slot = tt })
      | inr not_wanted ↦ rw not_wanted (instruction_leaves pages s)
    ]

-- a step leaves each register that its report does not name as the pending load left it
step_leaves : (pages : ℕ) (events : List LogEvent) (s : State) → Leaves s.core (outcome_of_step pages events s)
unfolding arrived ticked sampled outcome_of_step
step_leaves pages events s =
    let l = turn_leaves pages (record s { core = sampled (ticked (arrived events s.core)) }) in
    record { registers = l.registers; hi = l.hi; lo = l.lo; slot = l.slot }

pub other_registers : (pages : ℕ) (events : List LogEvent) (s : State) (number : ℕ) → ¬ (number ≡ (report pages events s).wrote)
    → register (next pages events s).core number ≡ slice_index (landed s.core.registers s.core.load) number
other_registers pages events s = (step_leaves pages events s).registers

pub same_hi : (pages : ℕ) (events : List LogEvent) (s : State) → ¬ IsTrue (is_written 32 (report pages events s).wrote) → (next pages events s).core.hi ≡ s.core.hi
same_hi pages events s = (step_leaves pages events s).hi

pub same_lo : (pages : ℕ) (events : List LogEvent) (s : State) → ¬ IsTrue (is_written 33 (report pages events s).wrote) → (next pages events s).core.lo ≡ s.core.lo
same_lo pages events s = (step_leaves pages events s).lo

pub named_slot : (pages : ℕ) (events : List LogEvent) (s : State) → IfSome (next pages events s).core.load (λ load. load.register ≡ (report pages events s).wrote)
named_slot pages events s = (step_leaves pages events s).slot

-- A trace that agrees with an outcome: it has the outcome's report, and the registers that the report names, with the values that the
-- outcome's state holds. With an exception nothing is written, loaded, stored or sent.
record Agrees (t : Traced) (o : Outcome) : Type 0 where
  done : t.done ≡ o.done
  write : t.write ≡ write_of o.done.wrote o.state.core
  hi_lo : t.hi_lo ≡ hi_lo_of o.done.wrote o.state.core
  exception : IfSome t.exception (λ code. DidNothing t)

completion_agrees : (pages : ℕ) (s : State) (w : Word) (c : Completion) → Agrees (traced_completion pages s w c) (outcome_of_completion s w.page c)
completion_agrees pages s w (Ok o) = record { done = refl; write = refl; hi_lo = refl; exception = tt }
completion_agrees pages s w (Err fault) = record {
  done = refl;
  write = refl;
  hi_lo = refl;
  exception = record { write = refl; hi_lo = refl; access = refl; wrote = refl; stored = refl; sent = refl };
}

fetch_agrees : (pages : ℕ) (s : State) (r : Result Word Exception) → Agrees (traced_fetch pages s r) (outcome_of_fetch pages s r)
fetch_agrees pages s (Err exception) = record {
  done = refl;
  write = refl;
  hi_lo = refl;
  exception = record { write = refl; hi_lo = refl; access = refl; wrote = refl; stored = refl; sent = refl };
}
fetch_agrees pages s (Ok w) = completion_agrees pages s w (completion_of_word pages s w)

turn_agrees : (pages : ℕ) (s : State) → Agrees (traced_interrupt_or_instruction pages s) (outcome_of_interrupt_or_instruction pages s)
turn_agrees pages s =
    elim (cases_Bool (control.is_wanted s.core.cop0)) [
      | inl wanted ↦ rw wanted (record {
        done = refl;
        write = refl;
        hi_lo = refl;
        exception = record { write = refl; hi_lo = refl; access = refl; wrote = refl; stored = refl; sent = refl };
      })
      | inr not_wanted ↦ rw not_wanted
          (fetch_agrees pages (record s { core = met s.core (meaning_of_fetch s.core) }) (fetched pages s.words s.core))
    ]

pub turn_report : (pages : ℕ) (s : State) → (traced_interrupt_or_instruction pages s).done ≡ (outcome_of_interrupt_or_instruction pages s).done
turn_report pages s = (turn_agrees pages s).done

did_nothing : (t : Traced) (shuts : Bool) → DidNothing t → DidNothing (record t { shuts_down = shuts })
did_nothing t shuts d = record { write = d.write; hi_lo = d.hi_lo; access = d.access; wrote = d.wrote; stored = d.stored; sent = d.sent }

if_some : {A : Type 0} {P Q : A → Type 0} (o : Option A) → ((a : A) → P a → Q a) → IfSome o P → IfSome o Q
if_some None follows holds = tt
if_some (Some a) follows holds = follows a holds

-- the end of a step: Random falls, and TS may become 1
fall_agrees : (t : Traced) (shuts : Bool) (o : Outcome) → Agrees t o → Agrees (record t { shuts_down = shuts }) (with_fall o)
fall_agrees t shuts o a = record {
  done = a.done;
  write = a.write;
  hi_lo = a.hi_lo;
  exception = if_some t.exception (λ code. did_nothing t shuts) a.exception;
}

step_agrees : (pages : ℕ) (events : List LogEvent) (s : State) → Agrees (traced pages events s) (outcome_of_step pages events s)
unfolding outcome_of_step traced
step_agrees pages events s =
    let begun : State = record s { core = sampled (ticked (arrived events s.core)) } in
    fall_agrees (traced_interrupt_or_instruction pages begun) (shuts_down s.core (next pages events s).core)
    (outcome_of_interrupt_or_instruction pages begun) (turn_agrees pages begun)

pub traced_report : (pages : ℕ) (events : List LogEvent) (s : State) → (traced pages events s).done ≡ report pages events s
traced_report pages events s = (step_agrees pages events s).done

pub traced_write : (pages : ℕ) (events : List LogEvent) (s : State) → (traced pages events s).write ≡ write_of (report pages events s).wrote (next pages events s).core
traced_write pages events s = (step_agrees pages events s).write

pub traced_hi_lo : (pages : ℕ) (events : List LogEvent) (s : State) → (traced pages events s).hi_lo ≡ hi_lo_of (report pages events s).wrote (next pages events s).core
traced_hi_lo pages events s = (step_agrees pages events s).hi_lo

pub traced_exception : (pages : ℕ) (events : List LogEvent) (s : State) → IfSome (traced pages events s).exception (λ code. DidNothing (traced pages events s))
traced_exception pages events s = (step_agrees pages events s).exception
