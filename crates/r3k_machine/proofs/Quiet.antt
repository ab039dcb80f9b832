-- Steps that are quiet and quick, before ticks and falls of Random and after them.
use Rattle.std.proofs.Math.Path.{ap₂}
use Rattle.std.proofs.Common.{Err, Result, IfSome, IsTrue, inl, inr, ◌≡◌, ℕ, suc, ◌+◌, ◌*◌, ◌/◌, ◌%◌, ◌^◌, ◌<◌, ◌≤◌, Bool, true, false, not, ◌&&◌, ◌||◌, nat_le, nat_lt, List, [], IsFalse, Option, Some, None, Ok, slice_index, refl, sym, subst, ap, ◌∙◌, arith}
use Rattle.std.specs.Prelude.{◌==◌, if◌then◌else◌}
use Rattle.std.specs.Prelude.{is_some, nat_eq, slice_index_or, position, count_by, bit_and, bit_or}
use Rattle.std.specs.Option.{option_map}
use Rattle.std.proofs.lemmas.Nat.{and_block, and_le_l, and_le_r, and_mask, or_disjoint}
use Rattle.std.proofs.lemmas.Nat.Bits.{and_high}
use Rattle.std.proofs.lemmas.Bool.{cases_Bool, cases_lt, eq-eqb, ne_eqb, true≢false}
use Rattle.std.proofs.lemmas.Bool.Decides.{nat_tests}
use Rattle.r3k_word.specs.Word.{field_of, has, merged}
use Rattle.r3k_word.specs.Layout.{page_of_place, place_of_word}
use Rattle.r3k_word.specs.declared.layout.TheConstants.{PAGE_BYTES}
use Rattle.tlb64.specs.Entries.{empty_entry, page_of, process_of}
use Rattle.tlb64.specs.declared.entry.Entry.{Entry}
use Rattle.tlb64.specs.declared.entry.Found.{Found}
use Rattle.tlb64.specs.declared.entry.TheConstants.{GLOBAL}
use Rattle.cop0.specs.Registers.{Registers, register_of}
use Rattle.cop0.specs.declared.number.TheConstants.{RANDOM}
use Rattle.cop0.specs.Changes as control
use Rattle.cop0.specs.Status.{in_user_mode, is_isolated, is_usable}
use Rattle.kn02_bus.specs.declared.bus.Lines.{Lines}
use Rattle.kn02_bus.specs.Lines.{lines_of}
use Rattle.kn02_bus.specs.Access as access
use Rattle.kn02_bus.specs.Quiet.{after, quiet_of, steady_word}
use Rattle.kn02_bus.specs.Region.{region_of}
use Rattle.kn02_bus.specs.State.{BusState}
use Rattle.kn02_bus.specs.declared.region.Device.{Device}
use Rattle.kn02_bus.specs.declared.region.Region.{Region}
use Rattle.kn02_bus.specs.declared.region.Region.TheVariants.{Ram, Rom, Unassigned}
use Rattle.kn02_bus.specs.declared.region.Region.TheVariants as region_is
use Rattle.r3k_decode.specs.Decoding.{operation_of}
use Rattle.r3k_decode.specs.Operation.{Operation}
use Rattle.r3k_exec.specs.Access.{stored}
use Rattle.r3k_exec.specs.Effects.{effect_of}
use Rattle.r3k_exec.specs.declared.access.LoadKind.{LoadKind}
use Rattle.r3k_exec.specs.declared.access.StoreKind.{StoreKind}
use Rattle.r3k_exec.specs.declared.operands.Effect.{Effect}
use Rattle.r3k_exec.specs.declared.operands.Effect.TheVariants.{Write, WriteHi, WriteLo, WriteHiLo, Jump, JumpAndLink, Trap, Load, Store, MoveFromControl, MoveToControl, ReadEntry, WriteIndexedEntry, WriteRandomEntry, ProbeEntry, ReturnFromException}
use Rattle.r3k_exec.specs.declared.operands.Operands.{Operands}
use Rattle.r3k_exec.specs.declared.operands.Trap.TheVariants.{Breakpoint}
use Rattle.r3k_machine.specs.declared.address.Physical.{Physical}
use Rattle.r3k_machine.specs.declared.address.Segment.{Segment}
use Rattle.r3k_machine.specs.declared.address.Segment.TheVariants.{Forbidden, Unmapped, Mapped}
use Rattle.r3k_machine.specs.declared.address.TheConstants.{KSEG0, KSEG1, KSEG2, UNCACHED, VALID}
use Rattle.r3k_machine.specs.declared.address.Use.{Use}
use Rattle.r3k_machine.specs.declared.address.Use.TheVariants.{Fetch}
use Rattle.r3k_machine.specs.declared.exception.Exception.{Exception}
use Rattle.r3k_machine.specs.declared.exception.Exception.TheVariants.{AddressErrorLoad, BusErrorFetch, TlbLoad}
use Rattle.r3k_machine.specs.declared.load_store.Loaded.{Loaded}
use Rattle.r3k_machine.specs.declared.load_store.Word.{Word}
use Rattle.r3k_machine.specs.Address.{Meaning, found_for, meaning, meaning_in, meaning_of_found, met, segment_of}
use Rattle.r3k_machine.specs.Core.{Core, HoldsZero}
use Rattle.r3k_machine.specs.State.{State}
use Rattle.r3k_machine.specs.declared.flow.Flow.{Flow}
use Rattle.r3k_machine.specs.Flow.{with_flow}
use Rattle.r3k_machine.specs.Exceptions.{is_unusable}
use Rattle.r3k_machine.specs.LoadStore.{after_load, after_load_over_bus, after_store, loaded_at, loaded_elsewhere, loaded_over_bus, meaning_of_fetch, meaning_of_load, meaning_of_store, ram_word, stored_at, word_at, word_of_place, word_read, words_after, words_with}
use Rattle.r3k_machine.specs.Step.{Completion, Outcome, arrived, completion_of_effect, completion_of_load, completion_of_store, completion_of_word, operands_of, outcome_of_completion, outcome_of_fetch, outcome_of_instruction, outcome_of_interrupt_or_instruction, outcome_of_step, outcome_of_word, sampled, ticked, with_fall}
use Rattle.r3k_machine.specs.declared.quick.CodePage.{CodePage}
use Rattle.r3k_machine.specs.Known.{IsDecoded, IsKnown, IsControl, IsStop}
use Rattle.r3k_machine.specs.Quiet.{GoesOverBus, IsCodePage, IsFetchedFrom, IsFetchedOverBus, IsIndexIn, IsPlain, IsQuick, IsQuickEffect, IsQuietFor, IsReached, LeadsOn, elapsed, outcome_elapsed, state_elapsed, steady_elsewhere, steady_over_bus}

-- after ticks and falls of Random
abbrev pub aged : (ticks falls : ℕ) → Core → Core
aged ticks falls core = record core { bus = after ticks core.bus; cop0 = control.fallen_by falls core.cop0 }

abbrev pub state_aged : (ticks falls : ℕ) → State → State
state_aged ticks falls s = record { core = aged ticks falls s.core; words = s.words }

abbrev pub outcome_aged : (ticks falls : ℕ) → Outcome → Outcome
outcome_aged ticks falls o = record { state = state_aged ticks falls o.state; done = o.done }

-- what an instruction leaves as it is, and where it leads
pub record Keeps (old new : Core) : Type 0 where
  pub bus : new.bus ≡ old.bus
  pub user : in_user_mode new.cop0 ≡ in_user_mode old.cop0
  pub isolated : is_isolated new.cop0 ≡ is_isolated old.cop0
  pub unwanted : IsFalse (control.is_wanted old.cop0) → IsFalse (control.is_wanted new.cop0)
  pub cause : new.cop0.cause ≡ old.cop0.cause
  pub entry_hi : new.cop0.entry_hi ≡ old.cop0.entry_hi
  pub entries : new.entries ≡ old.entries
  pub caches : new.caches ≡ old.caches
  pub leads : LeadsOn old new

-- sampling leaves the registers as they are where it leaves Cause so
sampled_by : (c : Registers) (lines : Lines) → (control.sampled c lines.board lines.clock).cause ≡ c.cause
    → control.sampled c lines.board lines.clock ≡ c
sampled_by c lines same = ap (λ (cause : ℕ). record c { cause = cause }) same

-- steps stay quiet, and the page that is run in what it is
pub quiet_kept : (n : ℕ) (old new : Core) → Keeps old new → IsQuietFor n old → IsQuietFor n new
quiet_kept n old new keeps quiet = record {
  counts = rw keeps.bus quiet.counts;
  sampled = rw keeps.bus
      (sampled_by new.cop0 (lines_of old.bus) (rw keeps.cause (ap (λ (c : Registers). c.cause) quiet.sampled)));
  unwanted = keeps.unwanted quiet.unwanted;
}

pub code_kept : (pages : ℕ) (page : CodePage) (old new : Core) → Keeps old new → IsCodePage pages old page → IsCodePage pages new page
unfolding meaning
code_kept pages page old new keeps code = record {
  within = code.within;
  fetched = λ address here aligned. rw (keeps.entries, keeps.user, keeps.entry_hi) (code.fetched address here aligned);
  over_bus = record {
    within = code.over_bus.within;
    over = λ some. record { kernel = keeps.user ∙ (code.over_bus.over some).kernel; shared = keeps.isolated ∙ (code.over_bus.over some).shared };
  };
}

-- after some of the steps
pub quiet_later : (n more : ℕ) (core : Core) → more ≤ quiet_of (after n core.bus) → lines_of (after n core.bus) ≡ lines_of core.bus
    → IsQuietFor (n + more) core → IsQuietFor more (elapsed n core)
quiet_later n more core counts same quiet = record {
  counts = counts;
  sampled =
      ap (λ (l : Lines). control.sampled (control.fallen_by n core.cop0) l.board l.clock) same
      ∙ ap (λ (c : Registers). control.fallen_by n c) quiet.sampled;
  unwanted = quiet.unwanted;
}

pub code_later : (pages n : ℕ) (core : Core) (page : CodePage) → IsCodePage pages core page → IsCodePage pages (elapsed n core) page
unfolding meaning
code_later pages n core page code = record {
  within = code.within;
  fetched = λ address here aligned. code.fetched address here aligned;
  over_bus = record {
    within = code.over_bus.within;
    over = λ some. record { kernel = (code.over_bus.over some).kernel; shared = (code.over_bus.over some).shared };
  };
}

-- an address means the same
meaning_aged : (ticks falls : ℕ) (core : Core) (access : Use) (aligned : Bool) (address : ℕ)
    → meaning (aged ticks falls core) access aligned address ≡ meaning core access aligned address
unfolding meaning
meaning_aged ticks falls core access aligned address = refl

-- so it does wherever the processor stands
pub reached_in : (core : Core) (flow : Flow) (access : Use) (aligned : Bool) (address physical : ℕ)
    → IsReached core (meaning core access aligned address) physical
    → IsReached (with_flow core flow) (meaning (with_flow core flow) access aligned address) physical
unfolding meaning
reached_in core flow access aligned address physical reached = record {
  cacheable = reached.cacheable;
  plain = record { means = reached.plain.means; shared = reached.plain.shared };
}

-- a load and a store, by the meaning of the address
abbrev load_by : ℕ → State → ℕ → LoadKind → (number address : ℕ) → Meaning → Completion
load_by pages s page kind number address m =
    completion_of_load (record { core = after_load pages (met s.core m) m.answer; words = s.words }) page kind number address
    (loaded_at pages s.words (met s.core m) m.answer)

abbrev store_by : ℕ → State → ℕ → StoreKind → (address value : ℕ) → Meaning → Completion
store_by pages s page kind address value m =
    let report = stored_at pages (met s.core m) (stored kind (address % 4) value) m.answer in
    completion_of_store (record { core = after_store pages (met s.core m) kind address value m.answer; words = s.words }) page
    (words_after s.words report (stored kind (address % 4) value)) report

-- a register that is steady on one bus is so on another one, which it is after ticks that only count
abbrev pub StaySteady : (now later : BusState) → Type 0
StaySteady now later = (word : ℕ) (device : Device) → steady_word now device ≡ Some word
    → (access.loaded later device ≡ word) × (access.after_load later device ≡ later)

steady_device : (bus : BusState) (core : Core) (device : Device) (word : Option ℕ) (loaded : Loaded) → StaySteady bus core.bus
    → steady_word bus device ≡ word → steady_elsewhere word ≡ Some loaded
    → (loaded_elsewhere (Some (access.loaded core.bus device)) ≡ Ok loaded) × (record core { bus = access.after_load core.bus device } ≡ core)
steady_device bus core device None loaded steady word is = let no : ⊥ = cc is in absurd no
steady_device bus core device (Some w) loaded steady word is = (
  ap (λ (n : ℕ). loaded_elsewhere (Some n)) (steady w device word).0 ∙ ap (λ (l : Loaded). let r : Result Loaded Exception = Ok l in r) (cc is),
  ap (λ (b : BusState). record core { bus = b }) (steady w device word).1,
)

steady_load : (bus : BusState) (core : Core) (words : List ℕ) (region : Region) (place : Option ℕ) (loaded : Loaded) → StaySteady bus core.bus
    → steady_over_bus words bus region place ≡ Some loaded
    → (loaded_over_bus words core region place ≡ Ok loaded) × (after_load_over_bus core region place ≡ core)
steady_load bus core words region (Some place) loaded steady is = (ap (λ (l : Loaded). let r : Result Loaded Exception = Ok l in r) (cc is), refl)
steady_load bus core words (region_is.Device device) None loaded steady is = steady_device bus core device (steady_word bus device) loaded steady refl is
steady_load bus core words Ram None loaded steady is = let no : ⊥ = cc is in absurd no
steady_load bus core words Rom None loaded steady is = let no : ⊥ = cc is in absurd no
steady_load bus core words Unassigned None loaded steady is = let no : ⊥ = cc is in absurd no

pub plain_load : (pages : ℕ) (bus : BusState) (s : State) (page : ℕ) (kind : LoadKind) (number address : ℕ) (m : Meaning) (physical : Physical)
    (loaded : Loaded) → StaySteady bus s.core.bus → IsPlain s.core m physical
    → steady_over_bus s.words bus (region_of pages physical.address) (place_of_word pages (physical.address / 4 * 4)) ≡ Some loaded
    → load_by pages s page kind number address m ≡ completion_of_load s page kind number address (Ok loaded)
plain_load pages bus s page kind number address m physical loaded steady plain is =
    let there = steady_load bus s.core s.words (region_of pages physical.address) (place_of_word pages (physical.address / 4 * 4)) loaded steady is in
    rw (plain.means, plain.shared, there.0, there.1) refl

pub plain_store : (pages : ℕ) (s : State) (page : ℕ) (kind : StoreKind) (address value : ℕ) (m : Meaning) (physical : Physical) (word : ℕ)
    → IsPlain s.core m physical → ram_word pages physical.address ≡ Some word
    → store_by pages s page kind address value m
    ≡ completion_of_store s page (words_with s.words (Some word) (stored kind (address % 4) value)) (Ok (record { address = Some word; sent = None }))
plain_store pages s page kind address value m physical word plain stands = rw (plain.means, plain.shared, stands) refl

-- a completion after ticks and falls is that before them, and it leaves what they change
pub record Ages (ticks falls : ℕ) (s : State) (now later : Completion) : Type 0 where
  pub outcome : Outcome
  pub is : now ≡ Ok outcome
  pub later_is : later ≡ Ok (outcome_aged ticks falls outcome)
  pub keeps : Keeps s.core outcome.state.core
  pub unsent : outcome.done.sent ≡ None

-- a register but Random, after falls
read_aged : (falls : ℕ) (c : Registers) (number : ℕ) → ¬ (number ≡ RANDOM) → register_of (control.fallen_by falls c) number ≡ register_of c number
read_aged falls c number other = rw (ne_eqb number RANDOM other) refl

pub effect_ages : (pages ticks falls : ℕ) (s : State) (page : ℕ) (effect : Effect) → StaySteady s.core.bus s.core.bus → StaySteady s.core.bus (after ticks s.core.bus)
    → IsQuickEffect pages s effect
    → Ages ticks falls s (completion_of_effect pages s page effect) (completion_of_effect pages (state_aged ticks falls s) page effect)
effect_ages pages ticks falls s page (Write number value) now later quick = record { outcome = _; is = refl; later_is = refl; keeps = record { bus = refl; user = refl; isolated = refl; unwanted = λ still. still; cause = refl; entry_hi = refl; entries = refl; caches = refl; leads = record { here = refl; next = λ free. refl } }; unsent = refl }
effect_ages pages ticks falls s page (WriteHi value) now later quick = record { outcome = _; is = refl; later_is = refl; keeps = record { bus = refl; user = refl; isolated = refl; unwanted = λ still. still; cause = refl; entry_hi = refl; entries = refl; caches = refl; leads = record { here = refl; next = λ free. refl } }; unsent = refl }
effect_ages pages ticks falls s page (WriteLo value) now later quick = record { outcome = _; is = refl; later_is = refl; keeps = record { bus = refl; user = refl; isolated = refl; unwanted = λ still. still; cause = refl; entry_hi = refl; entries = refl; caches = refl; leads = record { here = refl; next = λ free. refl } }; unsent = refl }
effect_ages pages ticks falls s page (WriteHiLo hi lo) now later quick = record { outcome = _; is = refl; later_is = refl; keeps = record { bus = refl; user = refl; isolated = refl; unwanted = λ still. still; cause = refl; entry_hi = refl; entries = refl; caches = refl; leads = record { here = refl; next = λ free. refl } }; unsent = refl }
effect_ages pages ticks falls s page (Jump target) now later quick = record { outcome = _; is = refl; later_is = refl; keeps = record { bus = refl; user = refl; isolated = refl; unwanted = λ still. still; cause = refl; entry_hi = refl; entries = refl; caches = refl; leads = record { here = refl; next = λ taken. absurd (true≢false taken) } }; unsent = refl }
effect_ages pages ticks falls s page (JumpAndLink target number value) now later quick = record { outcome = _; is = refl; later_is = refl; keeps = record { bus = refl; user = refl; isolated = refl; unwanted = λ still. still; cause = refl; entry_hi = refl; entries = refl; caches = refl; leads = record { here = refl; next = λ taken. absurd (true≢false taken) } }; unsent = refl }
effect_ages pages ticks falls s page (Trap trap) now later quick = absurd quick
effect_ages pages ticks falls s page (Load kind number address) now later (physical, loaded, plain, is) = record {
  outcome = _;
  is = plain_load pages s.core.bus s page kind number address (meaning_of_load s.core kind address) physical loaded now plain is;
  later_is =
      plain_load pages s.core.bus (state_aged ticks falls s) page kind number address (meaning_of_load (aged ticks falls s.core) kind address) physical loaded
      later (record { means = meaning_aged ticks falls s.core _ _ address ∙ plain.means; shared = plain.shared }) is;
  keeps = record { bus = refl; user = refl; isolated = refl; unwanted = λ still. still; cause = refl; entry_hi = refl; entries = refl; caches = refl; leads = record { here = refl; next = λ free. refl } };
  unsent = refl;
}
effect_ages pages ticks falls s page (Store kind address value) now later (physical, word, plain, stands) = record {
  outcome = _;
  is = plain_store pages s page kind address value (meaning_of_store s.core kind address) physical word plain stands;
  later_is =
      plain_store pages (state_aged ticks falls s) page kind address value (meaning_of_store (aged ticks falls s.core) kind address) physical word
      (record { means = meaning_aged ticks falls s.core _ _ address ∙ plain.means; shared = plain.shared }) stands;
  keeps = record { bus = refl; user = refl; isolated = refl; unwanted = λ still. still; cause = refl; entry_hi = refl; entries = refl; caches = refl; leads = record { here = refl; next = λ free. refl } };
  unsent = refl;
}
effect_ages pages ticks falls s page (MoveFromControl number control) now later (other, usable) =
    record { outcome = _; is = refl; later_is = rw (read_aged falls s.core.cop0 control other) refl; keeps = record { bus = refl; user = refl; isolated = refl; unwanted = λ still. still; cause = refl; entry_hi = refl; entries = refl; caches = refl; leads = record { here = refl; next = λ free. refl } }; unsent = refl }
effect_ages pages ticks falls s page (MoveToControl control value) now later (inr (is, stays), usable) =
    subst (λ (n : ℕ). Ages ticks falls s (completion_of_effect pages s page (MoveToControl n value)) (completion_of_effect pages (state_aged ticks falls s) page (MoveToControl n value)))
    (sym is)
    (record { outcome = _; is = refl; later_is = refl; keeps = record { bus = refl; user = stays.user; isolated = stays.isolated; unwanted = λ _. stays.unwanted; cause = refl; entry_hi = refl; entries = refl; caches = refl; leads = record { here = refl; next = λ free. refl } }; unsent = refl })
effect_ages pages ticks falls s page (MoveToControl control value) now later (inl is, usable) =
    subst (λ (n : ℕ). Ages ticks falls s (completion_of_effect pages s page (MoveToControl n value)) (completion_of_effect pages (state_aged ticks falls s) page (MoveToControl n value)))
    (sym is)
    (record { outcome = _; is = refl; later_is = refl; keeps = record { bus = refl; user = refl; isolated = refl; unwanted = λ still. still; cause = refl; entry_hi = refl; entries = refl; caches = refl; leads = record { here = refl; next = λ free. refl } }; unsent = refl })
effect_ages pages ticks falls s page ReturnFromException now later (stays, usable) =
    record { outcome = _; is = refl; later_is = refl; keeps = record { bus = refl; user = stays.user; isolated = stays.isolated; unwanted = λ _. stays.unwanted; cause = refl; entry_hi = refl; entries = refl; caches = refl; leads = record { here = refl; next = λ free. refl } }; unsent = refl }
effect_ages pages ticks falls s page ReadEntry now later quick = absurd quick
effect_ages pages ticks falls s page WriteIndexedEntry now later quick = absurd quick
effect_ages pages ticks falls s page WriteRandomEntry now later quick = absurd quick
effect_ages pages ticks falls s page ProbeEntry now later quick = absurd quick

-- the instruction at PC, by the meaning of its address
abbrev instruction_by : ℕ → State → Meaning → Outcome
instruction_by pages s m = outcome_of_fetch pages (record { core = met s.core m; words = s.words }) (word_read pages s.words BusErrorFetch m.answer)

pub plain_fetch : (pages : ℕ) (s : State) (m : Meaning) (physical : Physical) (w : Word)
    → m ≡ record { several = false; answer = Ok physical } → word_at pages s.words physical.address ≡ Some w
    → instruction_by pages s m ≡ outcome_of_completion s w.page (completion_of_word pages s w)
plain_fetch pages s m physical w means stands = rw (means, stands) refl

-- so is the word's effect
pub quick_word : (pages : ℕ) (s : State) (quick : IsQuick pages s)
    → completion_of_word pages s quick.fetched
    ≡ completion_of_effect pages s quick.fetched.page (effect_of quick.operation (operands_of s.core quick.operation))
quick_word pages s quick = rw (quick.usable, quick.decoded) refl

aged_word : (pages ticks falls : ℕ) (s : State) (quick : IsQuick pages s)
    → completion_of_word pages (state_aged ticks falls s) quick.fetched
    ≡ completion_of_effect pages (state_aged ticks falls s) quick.fetched.page (effect_of quick.operation (operands_of s.core quick.operation))
aged_word pages ticks falls s quick = rw (quick.usable, quick.decoded) refl

pub record InstructionAges (pages ticks falls : ℕ) (s : State) : Type 0 where
  pub later_is : outcome_of_instruction pages (state_aged ticks falls s) ≡ outcome_aged ticks falls (outcome_of_instruction pages s)
  pub keeps : Keeps s.core (outcome_of_instruction pages s).state.core
  pub unsent : (outcome_of_instruction pages s).done.sent ≡ None

pub instruction_ages : (pages ticks falls : ℕ) (s : State) → StaySteady s.core.bus s.core.bus → StaySteady s.core.bus (after ticks s.core.bus)
    → IsQuick pages s → InstructionAges pages ticks falls s
instruction_ages pages ticks falls s is_steady stay_steady quick =
    let w = quick.fetched in
    let effect = effect_of quick.operation (operands_of s.core quick.operation) in
    let ages = effect_ages pages ticks falls s w.page effect is_steady stay_steady quick.effect in
    let now = plain_fetch pages s (meaning_of_fetch s.core) quick.physical w quick.means quick.stands
    ∙ ap (outcome_of_completion s w.page) (quick_word pages s quick ∙ ages.is) in
    let later = plain_fetch pages (state_aged ticks falls s) (meaning_of_fetch (aged ticks falls s.core)) quick.physical w
    (meaning_aged ticks falls s.core _ _ s.core.pc ∙ quick.means) quick.stands
    ∙ ap (outcome_of_completion (state_aged ticks falls s) w.page) (aged_word pages ticks falls s quick ∙ ages.later_is) in record {
      later_is = later ∙ ap (outcome_aged ticks falls) (sym now);
      keeps = subst (λ (o : Outcome). Keeps s.core o.state.core) (sym now) ages.keeps;
      unsent = ap (λ (o : Outcome). o.done.sent) now ∙ ages.unsent;
    }

-- before the instruction of a quiet step there is a tick alone
before : (n : ℕ) (core : Core) (lines : Lines) → lines_of (after (suc n) core.bus) ≡ lines
    → control.sampled core.cop0 lines.board lines.clock ≡ core.cop0
    → sampled (ticked (arrived [] (elapsed n core))) ≡ aged (suc n) n core
unfolding arrived ticked sampled after
before n core lines same is =
    ap (λ (l : Lines). record core { bus = after (suc n) core.bus; cop0 = control.sampled (control.fallen_by n core.cop0) l.board l.clock }) same
    ∙ ap (λ (c : Registers). record core { bus = after (suc n) core.bus; cop0 = control.fallen_by n c }) is

-- the fall of Random after it
falls : (n : ℕ) (o : Outcome) → with_fall (outcome_aged (suc n) n o) ≡ outcome_elapsed (suc n) o
unfolding control.random_after
falls n o = refl

unwanted_runs : (pages : ℕ) (s : State) → IsFalse (control.is_wanted s.core.cop0)
    → outcome_of_interrupt_or_instruction pages s ≡ outcome_of_instruction pages s
unwanted_runs pages s unwanted = rw unwanted refl

pub alone : (pages n : ℕ) (s : State) → IsQuietFor (suc n) s.core → lines_of (after (suc n) s.core.bus) ≡ lines_of s.core.bus
    → outcome_of_step pages [] (state_elapsed n s) ≡ with_fall (outcome_of_instruction pages (state_aged (suc n) n s))
unfolding outcome_of_step
alone pages n s quiet same =
    ap (λ (core : Core). with_fall (outcome_of_interrupt_or_instruction pages (record { core = core; words = s.words })))
    (before n s.core (lines_of s.core.bus) same quiet.sampled)
    ∙ ap with_fall (unwanted_runs pages (state_aged (suc n) n s) quiet.unwanted)

pub at_once : (pages n : ℕ) (s : State) → IsQuietFor (suc n) s.core → lines_of (after (suc n) s.core.bus) ≡ lines_of s.core.bus
    → StaySteady s.core.bus s.core.bus → StaySteady s.core.bus (after (suc n) s.core.bus)
    → IsQuick pages s → outcome_of_step pages [] (state_elapsed n s) ≡ outcome_elapsed (suc n) (outcome_of_instruction pages s)
at_once pages n s quiet same is_steady stay_steady quick =
    alone pages n s quiet same
    ∙ (ap with_fall (instruction_ages pages (suc n) n s is_steady stay_steady quick).later_is ∙ falls n (outcome_of_instruction pages s))

-- an address of kseg0 or kseg1 that is aligned and not forbidden: the mode is the kernel's
kernel_alone : (user aligned : Bool) (at : ℕ) (physical : Physical)
    → (if not aligned || (user && nat_le KSEG0 at) then Forbidden
    else (if nat_le KSEG0 at && nat_lt at KSEG2 then Unmapped (record { address = at % 2 ^ 29; cacheable = nat_lt at KSEG1 }) else Mapped)) ≡ Unmapped physical
    → (IsFalse user × (KSEG0 ≤ at)) × ((at < KSEG2) × (physical.address ≡ at % 2 ^ 29))
kernel_alone user aligned at physical is = grind (arith, nat_tests)

unmapped_there : (user : Bool) (address : ℕ) → IsFalse user → KSEG0 ≤ address → address < KSEG2
    → (if not true || (user && nat_le KSEG0 address) then Forbidden
    else (if nat_le KSEG0 address && nat_lt address KSEG2 then Unmapped (record { address = address % 2 ^ 29; cacheable = nat_lt address KSEG1 }) else Mapped))
    ≡ Unmapped (record { address = address % 2 ^ 29; cacheable = nat_lt address KSEG1 })
unmapped_there user address kernel least most = grind (arith, nat_tests)

and_false : (a : Bool) → (a && false) ≡ false
and_false true = refl
and_false false = refl

pub over_bus : (core : Core) (access : Use) (address : ℕ) → GoesOverBus core → KSEG0 ≤ address → address < KSEG2
    → IsPlain core (meaning core access true address) (record { address = address % 2 ^ 29; cacheable = nat_lt address KSEG1 })
unfolding meaning
over_bus core access address goes least most = record {
  means = ap (meaning_in core access address) (unmapped_there (in_user_mode core.cop0) address goes.kernel least most);
  shared = ap (λ (b : Bool). nat_lt address KSEG1 && b) goes.shared ∙ and_false (nat_lt address KSEG1);
}

-- an aligned address of the page of another one, and the physical addresses
same_page : (at address : ℕ) → address / 4096 ≡ at / 4096 → address % 2 ^ 29 / 4096 ≡ at % 2 ^ 29 / 4096
same_page at address same = omega arith

place_in_page : (pages at address place : ℕ) → address % 4 ≡ 0 → address / 4096 ≡ at / 4096
    → place_of_word pages (at / 4 * 4) ≡ Some place
    → place_of_word pages (address / 4 * 4) ≡ Some (place / 1024 * 1024 + address % 4096 / 4)
place_in_page pages at address place aligned same stands = grind (arith, nat_tests)

unmapped_page : (core : Core) (pages at place : ℕ) (physical : Physical) → segment_of core.cop0 (at % 4 == 0) at ≡ Unmapped physical
    → place_of_word pages (physical.address / 4 * 4) ≡ Some place
    → IsFetchedFrom pages core (at / 4096) (place / 1024)
unfolding meaning
unmapped_page core pages at place physical is stands = λ address same aligned.
    let lies = kernel_alone (in_user_mode core.cop0) (at % 4 == 0) at physical is in
    let there = unmapped_there (in_user_mode core.cop0) address lies.0.0 (omega (arith, lies.0.1)) (omega (arith, lies.1.0)) in
    let here = subst (λ (n : ℕ). place_of_word pages (n / 4 * 4) ≡ Some place) lies.1.1 stands in
    let place_is = place_in_page pages (at % 2 ^ 29) (address % 2 ^ 29) place (omega arith) (same_page at address same) here in (
      record { address = address % 2 ^ 29; cacheable = nat_lt address KSEG1 },
      ap (meaning_in core Fetch address) there,
      place_is ∙ ap (λ (n : ℕ). Some (place / 1024 * 1024 + n / 4)) (let e : address % 2 ^ 29 % 4096 ≡ address % 4096 = omega arith in e),
    )

-- a mapped address, and others of its page
mapped_there : (user aligned : Bool) (at address : ℕ) → address / 4096 ≡ at / 4096
    → (if not aligned || (user && nat_le KSEG0 at) then Forbidden
    else (if nat_le KSEG0 at && nat_lt at KSEG2 then Unmapped (record { address = at % 2 ^ 29; cacheable = nat_lt at KSEG1 }) else Mapped)) ≡ Mapped
    → (if not true || (user && nat_le KSEG0 address) then Forbidden
    else (if nat_le KSEG0 address && nat_lt address KSEG2 then Unmapped (record { address = address % 2 ^ 29; cacheable = nat_lt address KSEG1 }) else Mapped))
    ≡ Mapped
mapped_there user aligned at address same is = grind (arith, nat_tests)

-- the entry that is for a page and a process
abbrev is_for : ℕ → ℕ → Entry → Bool
is_for page process entry = nat_eq (page_of entry.hi) page && (has entry.lo GLOBAL || nat_eq (process_of entry.hi) process)

abbrev lookup_by : List Entry → (page process : ℕ) → Option Found
lookup_by entries page process =
    option_map (λ place. record { index = place; entry = slice_index_or entries place empty_entry; several = nat_lt 1 (count_by (is_for page process) entries) })
    (position (is_for page process) entries)

found_same : (core : Core) (at address : ℕ) → address / 4096 ≡ at / 4096 → found_for core address ≡ found_for core at
found_same core at address same = ap (λ (n : ℕ). lookup_by core.entries (n % 2 ^ 20) (process_of core.cop0.entry_hi)) same

-- the frame of an entry, with the offset in the page
merged_is : (lo address : ℕ) → merged 0xFFF lo address ≡ lo / 4096 % 2 ^ 20 * 4096 + address % 4096
merged_is lo address =
    let high = lo / 4096 % 2 ^ 20 in
    let low = address % 4096 in
    let apart : bit_and (high * 4096) low ≡ 0 =
    ap₂ bit_and (let e : high * 4096 ≡ high * 2 ^ 12 + 0 = omega arith in e) (let e : low ≡ 0 * 2 ^ 12 + low = omega arith in e)
    ∙ (and_block 12 high 0 0 low (omega arith) (omega arith) ∙ omega (arith, and_le_r high 0, and_le_l 0 low)) in
    ap (λ (n : ℕ). bit_or n (bit_and address 0xFFF)) (and_high lo 20 12)
    ∙ (ap (bit_or (high * 4096)) (and_mask address 12) ∙ or_disjoint (high * 4096) low apart)

abbrev means : Physical → Meaning
means physical = record { several = false; answer = Ok physical }

record IsFramed (found : Option Found) (at address : ℕ) (physical : Physical) : Type 0 where
  lo : ℕ
  other : Physical
  here : physical.address ≡ merged 0xFFF lo at
  there : other.address ≡ merged 0xFFF lo address
  is : meaning_of_found Fetch address found ≡ means other

not_an_exception : (several : Bool) (e : Exception) (physical : Physical) → ¬ ((let m : Meaning = record { several = several; answer = Err e } in m) ≡ means physical)
not_an_exception several e physical is = true≢false (let same : true ≡ false = cc (ap (λ (m : Meaning). m.answer) is) in same)

framed_by : (lo at address : ℕ) (valid : Bool) (physical : Physical) (several : Bool)
    → (let m : Meaning = record {
      several = several;
      answer = if not valid then Err (TlbLoad at false) else Ok (record { address = merged 0xFFF lo at; cacheable = not (has lo UNCACHED) });
    } in m) ≡ means physical
    → (several ≡ false) × ((valid ≡ true) × (physical.address ≡ merged 0xFFF lo at))
framed_by lo at address true physical several is =
    (ap (λ (m : Meaning). m.several) is, (refl, ap (λ (p : Physical). p.address) (let same : physical ≡ record { address = merged 0xFFF lo at; cacheable = not (has lo UNCACHED) } = cc (ap (λ (m : Meaning). m.answer) is) in same)))
framed_by lo at address false physical several is = absurd (not_an_exception several (TlbLoad at false) physical is)

framed : (found : Option Found) (at address : ℕ) (physical : Physical) → meaning_of_found Fetch at found ≡ means physical
    → IsFramed found at address physical
framed None at address physical is = absurd (not_an_exception false (TlbLoad at (nat_lt at KSEG0)) physical is)
framed (Some found) at address physical is =
    let lo = found.entry.lo in
    let parts = framed_by lo at address (has lo VALID) physical found.several is in record {
      lo = lo;
      other = record { address = merged 0xFFF lo address; cacheable = not (has lo UNCACHED) };
      here = parts.1.1;
      there = refl;
      is = rw (parts.0, parts.1.0) refl;
    }

-- a page of kseg0 or kseg1, from any state in which these go over the bus
pub fetched_over_bus : (pages : ℕ) (core : Core) (page : CodePage) → IsCodePage pages core page → GoesOverBus core
    → KSEG0 / PAGE_BYTES ≤ page.number → page.number < KSEG2 / PAGE_BYTES → IsFetchedOverBus pages page.number page.page
fetched_over_bus pages core page code goes least most = λ other there address same aligned.
    let from = code.fetched address same aligned in
    let low : KSEG0 ≤ address = omega (arith, least, same) in
    let high : address < KSEG2 = omega (arith, most, same) in (
      from.0,
      (over_bus other Fetch address there low high).means ∙ (sym (over_bus core Fetch address goes low high).means ∙ from.1),
      from.2,
    )

mapped_page : (core : Core) (pages at place : ℕ) (physical : Physical) → segment_of core.cop0 (at % 4 == 0) at ≡ Mapped
    → meaning_of_found Fetch at (found_for core at) ≡ means physical → at % 4 ≡ 0
    → place_of_word pages (physical.address / 4 * 4) ≡ Some place
    → IsFetchedFrom pages core (at / 4096) (place / 1024)
unfolding meaning
mapped_page core pages at place physical mapped is at_word stands = λ address same aligned.
    let frame = framed (found_for core at) at address physical is in
    let there = mapped_there (in_user_mode core.cop0) (at % 4 == 0) at address same mapped in
    let at_is = frame.here ∙ merged_is frame.lo at in
    let other_is = frame.there ∙ merged_is frame.lo address in
    let here = subst (λ (n : ℕ). place_of_word pages (n / 4 * 4) ≡ Some place) at_is stands in
    let place_is = place_in_page pages (frame.lo / 4096 % 2 ^ 20 * 4096 + at % 4096) (frame.lo / 4096 % 2 ^ 20 * 4096 + address % 4096) place (omega arith) (omega arith) here in (
      frame.other,
      ap (meaning_in core Fetch address) there ∙ (ap (meaning_of_found Fetch address) (found_same core at address same) ∙ frame.is),
      ap (λ (n : ℕ). place_of_word pages (n / 4 * 4)) other_is
          ∙ (place_is ∙ ap (λ (n : ℕ). Some (place / 1024 * 1024 + n / 4)) (let e : (frame.lo / 4096 % 2 ^ 20 * 4096 + address % 4096) % 4096 ≡ address % 4096 = omega arith in e)),
    )

-- an address that is fetched from with one meaning
aligned_if : (cop0 : Registers) (at : ℕ) → segment_of cop0 (at % 4 == 0) at ≡ Mapped → at % 4 ≡ 0
aligned_if cop0 at is = grind (arith, nat_tests)

pub code_of : (core : Core) (pages at place : ℕ) (physical : Physical) (segment : Segment) → segment_of core.cop0 (at % 4 == 0) at ≡ segment
    → meaning_in core Fetch at segment ≡ means physical → place_of_word pages (physical.address / 4 * 4) ≡ Some place
    → IsFetchedFrom pages core (at / 4096) (place / 1024)
code_of core pages at place physical Forbidden lies is stands = absurd (not_an_exception false (AddressErrorLoad at) physical is)
code_of core pages at place physical (Unmapped other) lies is stands =
    let same : other ≡ physical = cc (ap (λ (m : Meaning). m.answer) is) in
    unmapped_page core pages at place physical (lies ∙ ap Unmapped same) stands
code_of core pages at place physical Mapped lies is stands =
    mapped_page core pages at place physical lies is (aligned_if core.cop0 at lies) stands

pub code_at : (core : Core) (pages at place : ℕ) (physical : Physical) → meaning core Fetch (at % 4 == 0) at ≡ means physical
    → place_of_word pages (physical.address / 4 * 4) ≡ Some place
    → IsFetchedFrom pages core (at / 4096) (place / 1024)
unfolding meaning
code_at core pages at place physical is stands = code_of core pages at place physical (segment_of core.cop0 (at % 4 == 0) at) refl is stands

-- so it is wherever the processor stands
pub code_in : (core : Core) (pages : ℕ) (flow : Flow) (at page : ℕ) → IsFetchedFrom pages core (at / 4096) page
    → IsFetchedFrom pages (with_flow core flow) (at / 4096) page
unfolding meaning
code_in core pages flow at page fetched = λ address here aligned. fetched address here aligned

-- the word of the page that is run in is fetched
pub fetched_from : (pages : ℕ) (words : List ℕ) (page offset physical : ℕ) → offset < 1024
    → place_of_word pages (physical / 4 * 4) ≡ Some (page * 1024 + offset)
    → word_at pages words physical ≡ Some (record { word = slice_index words (page * 1024 + offset); page = page })
fetched_from pages words page offset physical within stands =
    ap (word_of_place words) stands
    ∙ ap (λ (p : ℕ). Some (record { word = slice_index words (page * 1024 + offset); page = p })) (let e : page_of_place (page * 1024 + offset) ≡ page = omega arith in e)

pub aligned_fetch : (core : Core) → core.pc % 4 ≡ 0 → meaning_of_fetch core ≡ meaning core Fetch true core.pc
aligned_fetch core aligned = ap (λ (b : Bool). meaning core Fetch b core.pc) (eq-eqb (core.pc % 4) 0 aligned)

-- what stands for a word that is not known
pub stop_traps : (operation : Operation) (operands : Operands) → IsStop operation → effect_of operation operands ≡ Trap Breakpoint
stop_traps operation operands is = subst (λ (o : Option Operation). IfSome o (λ operation. effect_of operation operands ≡ Trap Breakpoint)) is refl

-- what stands after the last word of a page is not quick, so what is quick is a word of the page
pub in_page : (pages : ℕ) (s : State) (index : ℕ) (operation : Operation) → index ≤ 1024 → (index ≡ 1024 → IsStop operation)
    → IsQuickEffect pages s (effect_of operation (operands_of s.core operation)) → index < 1024
in_page pages s index operation within past effect =
    elim (cases_lt index 1024) [
      | inl less ↦ less
      | inr more ↦ absurd (rw (stop_traps operation (operands_of s.core operation) (past (omega (arith, within, more)))) at effect)
    ]

-- a known word with a quick effect is usable
usable_then : (core : Core) (word : ℕ) → IsTrue (is_usable core.cop0) → IsFalse (is_unusable core word)
usable_then core word usable = rw usable (and_false (field_of 31 26 word == 16))

pub usable_by : (pages : ℕ) (s : State) (own : Operation) (word : ℕ) → (¬ IsControl own → (core : Core) → IsFalse (is_unusable core word))
    → IsQuickEffect pages s (effect_of own (operands_of s.core own)) → IsFalse (is_unusable s.core word)
unfolding IsControl
usable_by pages s own word or_move effect =
    elim (cases_Bool (is_usable s.core.cop0)) [
      | inl usable ↦ usable_then s.core word usable
      | inr unusable ↦ or_move
          (λ control. elim (control (operands_of s.core own)) [
            | inl from ↦ true≢false (sym (subst (IsQuickEffect pages s) from effect).1 ∙ unusable)
            | inr (inl to) ↦ true≢false (sym (subst (IsQuickEffect pages s) to effect).1 ∙ unusable)
            | inr (inr back) ↦ true≢false (sym (subst (IsQuickEffect pages s) back effect).1 ∙ unusable)
          ])
          s.core
    ]

-- the instruction of a known word, which has the same effect, where that is quick
pub record Own (word : ℕ) (operation : Operation) (core : Core) : Type 0 where
  pub own : Operation
  pub decoded : operation_of word ≡ Some own
  pub same : effect_of operation (operands_of core operation) ≡ effect_of own (operands_of core own)
  pub usable : ¬ IsControl own → (core : Core) → IsFalse (is_unusable core word)

pub some_own : (o : Option Operation) → IsTrue (is_some o) → (own : Operation) × (o ≡ Some own)
some_own None some = absurd cc
some_own (Some own) some = (own, refl)

abbrev pub own_of : (pages : ℕ) (s : State) (word : ℕ) (operation : Operation) → IsKnown word operation → HoldsZero s.core.registers
    → (operands_of s.core operation).rs < 2 ^ 32 → IsQuickEffect pages s (effect_of operation (operands_of s.core operation)) → Own word operation s.core
own_of pages s word operation known zero within effect =
    let decoded : IsDecoded word operation = known (λ stops. rw (stop_traps operation (operands_of s.core operation) stops) at effect) in
    let own = some_own (operation_of word) decoded.some in record {
      own = own.0;
      decoded = own.1;
      same = decoded.same own.0 own.1 s.core zero within;
      usable = decoded.usable own.0 own.1;
    }

-- a known instruction of the page that is quick
abbrev pub quick_known : (pages : ℕ) (s : State) (page : CodePage) (index : ℕ) (operation : Operation) → IsCodePage pages s.core page
    → IsIndexIn page s.core.pc index → IsKnown (slice_index s.words (page.page * 1024 + index)) operation
    → HoldsZero s.core.registers → (operands_of s.core operation).rs < 2 ^ 32
    → IsQuickEffect pages s (effect_of operation (operands_of s.core operation)) → IsQuick pages s
quick_known pages s page index operation code at known zero within effect =
    let found = code.fetched s.core.pc at.here at.aligned in
    let word = slice_index s.words (page.page * 1024 + index) in
    let own = own_of pages s word operation known zero within effect in
    let own_effect = subst (IsQuickEffect pages s) own.same effect in record {
      physical = found.0;
      fetched = record { word = word; page = page.page };
      operation = own.own;
      means = aligned_fetch s.core at.aligned ∙ found.1;
      stands =
          fetched_from pages s.words page.page (s.core.pc % 4096 / 4) found.0.address (omega arith) found.2
          ∙ ap (λ (n : ℕ). Some (record { word = slice_index s.words (page.page * 1024 + n); page = page.page })) (sym at.is);
      usable = usable_by pages s own.own word own.usable own_effect;
      decoded = own.decoded;
      effect = own_effect;
    }

pub quick_ran : (pages : ℕ) (s : State) (quick : IsQuick pages s) (o : Outcome)
    → completion_of_effect pages s quick.fetched.page (effect_of quick.operation (operands_of s.core quick.operation)) ≡ Ok o
    → outcome_of_instruction pages s ≡ o
quick_ran pages s quick o completes =
    plain_fetch pages s (meaning_of_fetch s.core) quick.physical quick.fetched quick.means quick.stands
    ∙ ap (outcome_of_completion s quick.fetched.page) (quick_word pages s quick ∙ completes)

-- so a known instruction of the page runs, where it completes
pub known_ran : (pages : ℕ) (s : State) (page : CodePage) (index : ℕ) (operation : Operation) → IsCodePage pages s.core page
    → IsIndexIn page s.core.pc index → IsKnown (slice_index s.words (page.page * 1024 + index)) operation
    → HoldsZero s.core.registers → (operands_of s.core operation).rs < 2 ^ 32
    → IsQuickEffect pages s (effect_of operation (operands_of s.core operation)) → (o : Outcome)
    → completion_of_effect pages s page.page (effect_of operation (operands_of s.core operation)) ≡ Ok o → outcome_of_instruction pages s ≡ o
known_ran pages s page index operation code at known zero within effect o completes =
    quick_ran pages s (quick_known pages s page index operation code at known zero within effect) o
    (subst (λ (e : Effect). completion_of_effect pages s page.page e ≡ Ok o)
    (own_of pages s (slice_index s.words (page.page * 1024 + index)) operation known zero within effect).same completes)

-- what holds of what a quick step reports, if it is one
pub if_both : {A : Type 0} {P Q R : A → Type 0} (o : Option A) → IfSome o P → IfSome o Q → ((a : A) → P a → Q a → R a) → IfSome o R
if_both None p q f = tt
if_both (Some a) p q f = f a p q

-- a quiet step of an instruction of the page that is run in is that of its word after the tick
ticked_fetch : (core : Core) → meaning_of_fetch (ticked core) ≡ meaning_of_fetch core
unfolding meaning ticked
ticked_fetch core = refl

pub page_instruction : (pages : ℕ) (s : State) (page : CodePage) (index : ℕ) → IsCodePage pages s.core page → IsIndexIn page s.core.pc index
    → outcome_of_instruction pages (record { core = ticked s.core; words = s.words })
    ≡ outcome_of_word pages (record { core = ticked s.core; words = s.words }) (record { word = slice_index s.words (page.page * 1024 + index); page = page.page })
page_instruction pages s page index code at =
    let t : State = record { core = ticked s.core; words = s.words } in
    let found = code.fetched s.core.pc at.here at.aligned in
    let means = ticked_fetch s.core ∙ (aligned_fetch s.core at.aligned ∙ found.1) in
    let stands = fetched_from pages s.words page.page (s.core.pc % 4096 / 4) found.0.address (omega arith) found.2
    ∙ ap (λ (n : ℕ). Some (record { word = slice_index s.words (page.page * 1024 + n); page = page.page })) (sym at.is) in
    plain_fetch pages t (meaning_of_fetch t.core) found.0 (record { word = slice_index s.words (page.page * 1024 + index); page = page.page }) means stands
