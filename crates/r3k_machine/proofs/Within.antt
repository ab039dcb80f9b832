-- A step reports pages of the machine alone.
use Rattle.std.proofs.Common.{ℕ, zero, suc, ◌+◌, ◌-◌, ◌*◌, ◌/◌, ◌%◌, List, [], ◌∷◌, All, Option, Some, None, IfSome, Result, Ok, Err, IfOk, if◌then◌else◌, slice_index, IsTrue, nat_eq, nat_lt, nat_le, ◌==◌, ◌&&◌, inl, inr, refl, arith}
use Rattle.std.proofs.lemmas.Bool.{and_parts, cases_Bool, eq-eqb, ltb-true, or_right}
use Rattle.input_log.specs.Event.{LogEvent}
use Rattle.dz_serial.specs.declared.write.Sent.{Sent}
use Rattle.kn02_bus.specs.Region.{region_of}
use Rattle.kn02_bus.specs.declared.region.Region.{Region}
use Rattle.r3k_word.specs.Layout.{page_of_place, place_of_word}
use Rattle.r3k_word.specs.declared.layout.TheConstants.{PAGE_BYTES, PAGE_WORDS, ROM_BYTES, ROM_START}
use Rattle.cop0.specs.Changes as control
use Rattle.r3k_decode.specs.Operation.{Operation}
use Rattle.r3k_decode.specs.Decoding.{operation_of}
use Rattle.r3k_exec.specs.Access.{stored}
use Rattle.r3k_exec.specs.Effects.{effect_of}
use Rattle.r3k_exec.specs.declared.access.Covered.{Covered}
use Rattle.r3k_exec.specs.declared.access.LoadKind.{LoadKind}
use Rattle.r3k_exec.specs.declared.operands.Effect.{Effect}
use Rattle.r3k_exec.specs.declared.operands.Effect.TheVariants.{Write, WriteHi, WriteLo, WriteHiLo, Jump, JumpAndLink, Trap, Load, Store, MoveFromControl, MoveToControl, ReadEntry, WriteIndexedEntry, WriteRandomEntry, ProbeEntry, ReturnFromException}
use Rattle.r3k_machine.specs.declared.address.Physical.{Physical}
use Rattle.r3k_machine.specs.declared.exception.Exception.{Exception}
use Rattle.r3k_machine.specs.declared.exception.Exception.TheVariants.{BusErrorFetch}
use Rattle.r3k_machine.specs.declared.load_store.Loaded.{Loaded}
use Rattle.r3k_machine.specs.declared.load_store.Stored.{Stored}
use Rattle.r3k_machine.specs.declared.load_store.Word.{Word}
use Rattle.r3k_machine.specs.declared.step.Done.{Done}
use Rattle.r3k_machine.specs.Core.{Core}
use Rattle.r3k_machine.specs.State.{State}
use Rattle.r3k_machine.specs.Address.{met}
use Rattle.r3k_machine.specs.Exceptions.{is_unusable}
use Rattle.r3k_machine.specs.Devices.{word_of_device}
use Rattle.r3k_machine.specs.Isolated.{is_isolated}
use Rattle.r3k_machine.specs.Locality.{touches}
use Rattle.r3k_machine.specs.LoadStore.{loaded_at, loaded_elsewhere, loaded_over_bus, meaning_of_fetch, meaning_of_load, meaning_of_store, core_after_load, core_after_store, loaded_from, ram_word, stored_at, stored_over_bus, stored_to, word_of_place, word_or, word_read, words_after}
use Rattle.r3k_machine.specs.Step.{Completion, Outcome, arrived, completion_of_effect, completion_of_load, completion_of_operation, completion_of_store, completion_of_word, completing, fetching, operands_of, outcome_of_completion, outcome_of_fetch, outcome_of_interrupt_or_instruction, outcome_of_step, page_stored, sampled, ticked, report}
use Rattle.r3k_machine.specs.Reports.{IsPage}

-- a page that is reported, or none
abbrev IsIn : ℕ → Option ℕ → Type 0
IsIn pages page = IfSome page (IsPage pages)

two : (pages : ℕ) (first second : Option ℕ) → IsIn pages first → IsIn pages second → All (IsIn pages) (first ∷ second ∷ [])
two pages first second a b zero d within = a
two pages first second a b (suc zero) d within = b
two pages first second a b (suc (suc k)) d within = absurd (let e : ⊥ = omega (arith, within) in e)

-- the page of a word of RAM or ROM
rom_in : (pages address : ℕ)
    → IfSome (if nat_le ROM_START address && nat_lt address (ROM_START + ROM_BYTES) then Some (pages * PAGE_WORDS + (address - ROM_START) / 4) else None) (λ place. IsPage pages (page_of_place place))
rom_in pages address =
    elim (cases_Bool (nat_le ROM_START address && nat_lt address (ROM_START + ROM_BYTES))) [
      | inl inside ↦ rw inside (let below = ltb-true address (ROM_START + ROM_BYTES) (and_parts (nat_le ROM_START address) (nat_lt address (ROM_START + ROM_BYTES)) inside).1 in omega (arith, below))
      | inr outside ↦ rw outside tt
    ]

memory_in : (pages address : ℕ)
    → IfSome (if nat_lt address (pages * PAGE_BYTES) then Some (address / 4) else (if nat_le ROM_START address && nat_lt address (ROM_START + ROM_BYTES) then Some (pages * PAGE_WORDS + (address - ROM_START) / 4) else None)) (λ place. IsPage pages (page_of_place place))
memory_in pages address =
    elim (cases_Bool (nat_lt address (pages * PAGE_BYTES))) [
      | inl inside ↦ rw inside (let below = ltb-true address (pages * PAGE_BYTES) inside in omega (arith, below))
      | inr outside ↦ rw outside (rom_in pages address)
    ]

place_in : (pages address : ℕ) → IfSome (place_of_word pages address) (λ place. IsPage pages (page_of_place place))
place_in pages address =
    elim (cases_Bool (address % 4 == 0)) [
      | inl aligned ↦ rw aligned (memory_in pages address)
      | inr misaligned ↦ rw misaligned tt
    ]

ram_in : (pages address : ℕ) → IsIn pages (page_stored (ram_word pages address))
ram_in pages address =
    elim (cases_Bool (nat_lt address (pages * PAGE_BYTES))) [
      | inl inside ↦ rw inside (let below = ltb-true address (pages * PAGE_BYTES) inside in omega (arith, below))
      | inr outside ↦ rw outside tt
    ]

-- that of a load
bus_load_in : (pages : ℕ) (words : List ℕ) (core : Core) (region : Region) (place : Option ℕ) → IfSome place (λ place. IsPage pages (page_of_place place))
    → IfOk (loaded_over_bus words core region place) (λ loaded. IsIn pages loaded.page)
bus_load_in pages words core region None none = device_in (word_of_device core region)
  where
    device_in : (word : Option ℕ) → IfOk (loaded_elsewhere word) (λ loaded. IsIn pages loaded.page)
    device_in None = tt
    device_in (Some word) = tt
bus_load_in pages words core region (Some place) here = here

load_in : (pages : ℕ) (words : List ℕ) (core : Core) (answer : Result Physical Exception) → IfOk (loaded_at pages words core answer) (λ loaded. IsIn pages loaded.page)
load_in pages words core (Err e) = tt
load_in pages words core (Ok physical) =
    elim (cases_Bool (is_isolated core physical)) [
      | inl isolated ↦ rw isolated tt
      | inr over_bus ↦ rw over_bus (bus_load_in pages words core (region_of pages physical.address) (place_of_word pages (physical.address / 4 * 4)) (place_in pages (physical.address / 4 * 4)))
    ]

-- and that of a store
bus_store_in : (pages : ℕ) (core : Core) (region : Region) (covered : Covered) (address : Option ℕ) → IsIn pages (page_stored address)
    → IsIn pages (page_stored (stored_over_bus core region covered address).address)
bus_store_in pages core region covered None here = tt
bus_store_in pages core region covered (Some address) here = here

store_in : (pages : ℕ) (core : Core) (covered : Covered) (answer : Result Physical Exception) → IfOk (stored_at pages core covered answer) (λ stored. IsIn pages (page_stored stored.address))
store_in pages core covered (Err e) = tt
store_in pages core covered (Ok physical) =
    elim (cases_Bool (is_isolated core physical)) [
      | inl isolated ↦ rw isolated tt
      | inr over_bus ↦ rw over_bus (bus_store_in pages core (region_of pages physical.address) covered (ram_word pages physical.address) (ram_in pages physical.address))
    ]

-- the page of the word that a step stored into is one that it touched
abbrev StoresInTouched : Done → Type 0
StoresInTouched done = IfSome done.stored (λ address. IsTrue (touches (address / PAGE_BYTES) done))

store_touches : (page : ℕ) (sent : Option Sent) (address : Option ℕ)
    → StoresInTouched (record { sent = sent; stored = address; touched = Some page ∷ page_stored address ∷ []; wrote = 0 })
store_touches page sent None = tt
store_touches page sent (Some address) =
    let here = address / PAGE_BYTES in or_right (nat_eq page here) (nat_eq here here) (eq-eqb here here refl)

-- the pages that a step reports, and the one that it stored into
record IsWithin (pages : ℕ) (done : Done) : Type 0 where
  touched : All (IsIn pages) done.touched
  stored : IsIn pages (page_stored done.stored)
  among : StoresInTouched done

-- where it was only fetched from one, if from any
only_fetched : (pages : ℕ) (page : Option ℕ) → IsIn pages page → IsWithin pages (fetching page)
only_fetched pages page here = record { touched = two pages page None here tt; stored = tt; among = tt }

only_completed : (pages page : ℕ) {wrote : ℕ} → IsPage pages page → IsWithin pages (completing page wrote)
only_completed pages page here = record { touched = two pages (Some page) None here tt; stored = tt; among = tt }

-- what an instruction reports, where it completes
abbrev CompletesIn : ℕ → Completion → Type 0
CompletesIn pages completion = IfOk completion (λ outcome. IsWithin pages outcome.done)

load_completes : (pages : ℕ) (s : State) (page : ℕ) (kind : LoadKind) (number address : ℕ) (r : Result Loaded Exception) → IsPage pages page
    → IfOk r (λ loaded. IsIn pages loaded.page) → CompletesIn pages (completion_of_load s page kind number address r)
load_completes pages s page kind number address (Err e) here there = tt
load_completes pages s page kind number address (Ok a) here there = record { touched = two pages (Some page) a.page here there; stored = tt; among = tt }

store_completes : (pages : ℕ) (s : State) (page : ℕ) (words : List ℕ) (r : Result Stored Exception) → IsPage pages page
    → IfOk r (λ stored. IsIn pages (page_stored stored.address)) → CompletesIn pages (completion_of_store s page words r)
store_completes pages s page words (Err e) here there = tt
store_completes pages s page words (Ok a) here there = record { touched = two pages (Some page) (page_stored a.address) here there; stored = there; among = store_touches page a.sent a.address }

effect_completes : (pages : ℕ) (s : State) (page : ℕ) (effect : Effect) → IsPage pages page → CompletesIn pages (completion_of_effect pages s page effect)
effect_completes pages s page (Write number value) here = only_completed pages page here
effect_completes pages s page (WriteHi value) here = only_completed pages page here
effect_completes pages s page (WriteLo value) here = only_completed pages page here
effect_completes pages s page (WriteHiLo hi lo) here = only_completed pages page here
effect_completes pages s page (Jump target) here = only_completed pages page here
effect_completes pages s page (JumpAndLink target number value) here = only_completed pages page here
effect_completes pages s page (Trap trap) here = tt
effect_completes pages s page (Load kind number address) here =
    let m = meaning_of_load s.core kind address in
    load_completes pages (record { core = core_after_load pages s.core kind address; words = s.words }) page kind number address
    (loaded_from pages s.words s.core kind address) here (load_in pages s.words (met s.core m) m.answer)
effect_completes pages s page (Store kind address value) here =
    let m = meaning_of_store s.core kind address in
    store_completes pages (record { core = core_after_store pages s.core kind address value; words = s.words }) page
    (words_after s.words (stored_to pages s.core kind address value) (stored kind (address % 4) value)) (stored_to pages s.core kind address value) here
    (store_in pages (met s.core m) (stored kind (address % 4) value) m.answer)
effect_completes pages s page (MoveFromControl number control) here = only_completed pages page here
effect_completes pages s page (MoveToControl control value) here = only_completed pages page here
effect_completes pages s page ReturnFromException here = only_completed pages page here
effect_completes pages s page ReadEntry here = only_completed pages page here
effect_completes pages s page WriteIndexedEntry here = only_completed pages page here
effect_completes pages s page WriteRandomEntry here = only_completed pages page here
effect_completes pages s page ProbeEntry here = only_completed pages page here

operation_completes : (pages : ℕ) (s : State) (i : Word) (operation : Option Operation) → IsPage pages i.page → CompletesIn pages (completion_of_operation pages s i operation)
operation_completes pages s i None here = tt
operation_completes pages s i (Some operation) here = effect_completes pages s i.page (effect_of operation (operands_of s.core operation)) here

word_completes : (pages : ℕ) (s : State) (i : Word) → IsPage pages i.page → CompletesIn pages (completion_of_word pages s i)
word_completes pages s i here =
    elim (cases_Bool (is_unusable s.core i.word)) [
      | inl unusable ↦ rw unusable tt
      | inr usable ↦ rw usable (operation_completes pages s i (operation_of i.word) here)
    ]

-- what a step reports
abbrev ReportsIn : ℕ → Outcome → Type 0
ReportsIn pages outcome = IsWithin pages outcome.done

completion_in : (pages : ℕ) (s : State) (page : ℕ) (completion : Completion) → IsPage pages page → CompletesIn pages completion → ReportsIn pages (outcome_of_completion s page completion)
completion_in pages s page (Err e) here there = only_fetched pages (Some page) here
completion_in pages s page (Ok outcome) here there = there

place_reports : (pages : ℕ) (s : State) (place : Option ℕ) → IfSome place (λ place. IsPage pages (page_of_place place))
    → ReportsIn pages (outcome_of_fetch pages s (word_or BusErrorFetch (word_of_place s.words place)))
place_reports pages s None none = only_fetched pages None tt
place_reports pages s (Some place) here =
    let i : Word = record { word = slice_index s.words place; page = page_of_place place } in
    completion_in pages s i.page (completion_of_word pages s i) here (word_completes pages s i here)

fetch_reports : (pages : ℕ) (s : State) (answer : Result Physical Exception) → ReportsIn pages (outcome_of_fetch pages s (word_read pages s.words BusErrorFetch answer))
fetch_reports pages s (Err e) = only_fetched pages None tt
fetch_reports pages s (Ok physical) = place_reports pages s (place_of_word pages (physical.address / 4 * 4)) (place_in pages (physical.address / 4 * 4))

turn_reports : (pages : ℕ) (s : State) → ReportsIn pages (outcome_of_interrupt_or_instruction pages s)
turn_reports pages s =
    elim (cases_Bool (control.is_wanted s.core.cop0)) [
      | inl wanted ↦ rw wanted (only_fetched pages None tt)
      | inr not_wanted ↦ rw not_wanted (fetch_reports pages (record { core = met s.core (meaning_of_fetch s.core); words = s.words }) (meaning_of_fetch s.core).answer)
    ]

step_reports : (pages : ℕ) (events : List LogEvent) (s : State) → IsWithin pages (report pages events s)
unfolding outcome_of_step
step_reports pages events s = turn_reports pages (record { core = sampled (ticked (arrived events s.core)); words = s.words })

pub pages_within : (pages : ℕ) (events : List LogEvent) (s : State) → All (λ page. IfSome page (IsPage pages)) (report pages events s).touched
pages_within pages events s = (step_reports pages events s).touched

pub store_within : (pages : ℕ) (events : List LogEvent) (s : State) → IfSome (report pages events s).stored (λ address. IsPage pages (address / PAGE_BYTES))
store_within pages events s = at_word (report pages events s).stored (step_reports pages events s).stored
  where
    at_word : (stored : Option ℕ) → IsIn pages (page_stored stored) → IfSome stored (λ address. IsPage pages (address / PAGE_BYTES))
    at_word None here = tt
    at_word (Some address) here = here

pub store_touched : (pages : ℕ) (events : List LogEvent) (s : State) → StoresInTouched (report pages events s)
store_touched pages events s = (step_reports pages events s).among
