-- A step that touches no page of a set, from two states that differ in such pages alone.
use Rattle.std.proofs.Common.{◌≡◌, ℕ, ◌*◌, ◌/◌, ◌%◌, Bool, true, false, ◌||◌, List, Option, Some, None, Result, Ok, Err, IsFalse, slice_index, slice_index_or, if◌then◌else◌, inl, inr, refl, sym, ap, subst}
use Rattle.std.proofs.lemmas.Bool.{cases_Bool, eq-eqb, or_parts}
use Rattle.input_log.specs.Event.{LogEvent}
use Rattle.kn02_bus.specs.Region.{region_of}
use Rattle.kn02_bus.specs.declared.region.Region.{Region}
use Rattle.r3k_word.specs.Layout.{page_of_place, place_of_word}
use Rattle.cop0.specs.Changes as control
use Rattle.r3k_decode.specs.Operation.{Operation}
use Rattle.r3k_decode.specs.Decoding.{operation_of}
use Rattle.r3k_exec.specs.Access.{stored}
use Rattle.r3k_exec.specs.Effects.{effect_of}
use Rattle.r3k_exec.specs.declared.access.Covered.{Covered}
use Rattle.r3k_exec.specs.declared.access.LoadKind.{LoadKind}
use Rattle.r3k_exec.specs.declared.operands.Effect.{Effect}
use Rattle.r3k_exec.specs.declared.operands.Effect.TheVariants.{Write, WriteHi, WriteLo, WriteHiLo, Jump, JumpAndLink, Trap, Load, Store, MoveFromControl, MoveToControl, ReadEntry, WriteIndexedEntry, WriteRandomEntry, ProbeEntry, ReturnFromException}
use Rattle.r3k_machine.specs.declared.address.Physical.{Physical}
use Rattle.r3k_machine.specs.declared.exception.Exception.{Exception}
use Rattle.r3k_machine.specs.declared.exception.Exception.TheVariants.{BusErrorFetch}
use Rattle.r3k_machine.specs.declared.load_store.Loaded.{Loaded}
use Rattle.r3k_machine.specs.declared.load_store.Stored.{Stored}
use Rattle.r3k_machine.specs.declared.load_store.Word.{Word}
use Rattle.r3k_machine.specs.Core.{Core}
use Rattle.r3k_machine.specs.State.{State}
use Rattle.r3k_machine.specs.Address.{met}
use Rattle.r3k_machine.specs.Exceptions.{is_unusable}
use Rattle.r3k_machine.specs.Devices.{word_of_device}
use Rattle.r3k_machine.specs.Isolated.{is_isolated, slot_at}
use Rattle.r3k_machine.specs.LoadStore.{loaded_at, loaded_elsewhere, loaded_over_bus, meaning_of_fetch, meaning_of_load, core_after_load, core_after_store, loaded_from, stored_to, word_of_place, word_or, word_read, words_after}
use Rattle.r3k_machine.specs.Step.{Completion, Outcome, arrived, completion_of_effect, completion_of_load, completion_of_operation, completion_of_store, completion_of_word, fallen, operands_of, outcome_of_completion, outcome_of_fetch, outcome_of_interrupt_or_instruction, outcome_of_step, page_stored, sampled, ticked, with_fall}
use Rattle.r3k_machine.specs.Locality.{AreWithPages, IsApart, IsWithPages, is_page, touches}
use Rattle.r3k_machine.proofs.Carried.{not_here, stored_apart}
use Rattle.r3k_machine.proofs.Fetched.{begins_with}

-- a core with words
abbrev at : Core → List ℕ → State
at core words = record { core = core; words = words }

-- a page that stands first is touched
touched_first : (page : ℕ) (first second : Option ℕ) → first ≡ Some page → (is_page page first || is_page page second) ≡ true
touched_first page first second e = rw (e, eq-eqb page page refl) refl

module _ (set : ℕ → Bool) (own other words : List ℕ) (w : AreWithPages set own other words) where
  -- what is loaded is the same, unless from a page of the set
  abbrev LoadsSame : Result Loaded Exception → Result Loaded Exception → Type 0
  LoadsSame (Err e) (Err f) = f ≡ e
  LoadsSame (Ok a) (Ok b) = IsApart set (λ page. is_page page a.page) → b ≡ a
  LoadsSame a b = ⊥

  loads_itself : (r : Result Loaded Exception) → LoadsSame r r
  loads_itself (Err e) = refl
  loads_itself (Ok a) = λ apart. refl

  -- a load over the bus, of a word of memory or of a device
  bus_loads : (core : Core) (region : Region) (place : Option ℕ) → LoadsSame (loaded_over_bus own core region place) (loaded_over_bus words core region place)
  bus_loads core region None = loads_itself (loaded_elsewhere (word_of_device core region))
  bus_loads core region (Some place) = λ apart.
      ap (λ (word : ℕ). record { word = word; page = Some (page_of_place place) })
      (sym (w.outside place (not_here set (λ page. is_page page (Some (page_of_place place))) (page_of_place place) apart (eq-eqb (page_of_place place) (page_of_place place) refl))))

  loads_unless : (isolated : Bool) (slot : Loaded) (core : Core) (region : Region) (place : Option ℕ)
      → LoadsSame (if isolated then Ok slot else loaded_over_bus own core region place) (if isolated then Ok slot else loaded_over_bus words core region place)
  loads_unless true slot core region place = λ apart. refl
  loads_unless false slot core region place = bus_loads core region place

  loads : (pages : ℕ) (core : Core) (answer : Result Physical Exception) → LoadsSame (loaded_at pages own core answer) (loaded_at pages words core answer)
  loads pages core (Err e) = refl
  loads pages core (Ok physical) =
      loads_unless (is_isolated core physical) (record { word = (slot_at core physical.address).word; page = None }) core
      (region_of pages physical.address) (place_of_word pages (physical.address / 4 * 4))

  -- an outcome from the second memory that is the one from the first, unless that touched a page of the set
  abbrev Follows : Outcome → Outcome → Type 0
  Follows o p = IsApart set (λ page. touches page o.done) → (p.done ≡ o.done) × IsWithPages set o.state other p.state

  -- the same of what an instruction leaves
  abbrev Completes : Completion → Completion → Type 0
  Completes (Err e) (Err f) = f ≡ e
  Completes (Ok o) (Ok p) = Follows o p
  Completes a b = ⊥

  -- what a step touched second
  second : (first : ℕ) (page : Option ℕ) → IsApart set (λ other_page. is_page other_page (Some first) || is_page other_page page) → IsApart set (λ other_page. is_page other_page page)
  second first page apart = λ held_page held. (or_parts (is_page held_page (Some first)) (is_page held_page page) (apart held_page held)).1

  load_completes : (core : Core) (page : ℕ) (kind : LoadKind) (number address : ℕ) (a b : Result Loaded Exception) → LoadsSame a b
      → Completes (completion_of_load (at core own) page kind number address a) (completion_of_load (at core words) page kind number address b)
  load_completes core page kind number address (Err e) (Err f) same = ap (λ (x : Exception). record { core = core; exception = x }) same
  load_completes core page kind number address (Err e) (Ok b) same = absurd same
  load_completes core page kind number address (Ok a) (Err f) same = absurd same
  load_completes core page kind number address (Ok a) (Ok b) same = λ apart.
      let e : b ≡ a = same (second page a.page apart) in rw e (refl, record { core = refl; words = w })

  store_completes : (core : Core) (page : ℕ) (covered : Covered) (r : Result Stored Exception)
      → Completes (completion_of_store (at core own) page (words_after own r covered) r) (completion_of_store (at core words) page (words_after words r covered) r)
  store_completes core page covered (Err e) = refl
  store_completes core page covered (Ok s) = λ apart.
      (refl, record { core = refl; words = stored_apart set own other words s.address covered (second page (page_stored s.address) apart) w })

  effect_completes : (pages : ℕ) (core : Core) (page : ℕ) (effect : Effect)
      → Completes (completion_of_effect pages (at core own) page effect) (completion_of_effect pages (at core words) page effect)
  effect_completes pages core page (Write number value) = λ apart. (refl, record { core = refl; words = w })
  effect_completes pages core page (WriteHi value) = λ apart. (refl, record { core = refl; words = w })
  effect_completes pages core page (WriteLo value) = λ apart. (refl, record { core = refl; words = w })
  effect_completes pages core page (WriteHiLo hi lo) = λ apart. (refl, record { core = refl; words = w })
  effect_completes pages core page (Jump target) = λ apart. (refl, record { core = refl; words = w })
  effect_completes pages core page (JumpAndLink target number value) = λ apart. (refl, record { core = refl; words = w })
  effect_completes pages core page (Trap trap) = refl
  effect_completes pages core page (Load kind number address) =
      load_completes (core_after_load pages core kind address) page kind number address (loaded_from pages own core kind address) (loaded_from pages words core kind address)
      (let m = meaning_of_load core kind address in loads pages (met core m) m.answer)
  effect_completes pages core page (Store kind address value) =
      store_completes (core_after_store pages core kind address value) page (stored kind (address % 4) value) (stored_to pages core kind address value)
  effect_completes pages core page (MoveFromControl number control) = λ apart. (refl, record { core = refl; words = w })
  effect_completes pages core page (MoveToControl control value) = λ apart. (refl, record { core = refl; words = w })
  effect_completes pages core page ReturnFromException = λ apart. (refl, record { core = refl; words = w })
  effect_completes pages core page ReadEntry = λ apart. (refl, record { core = refl; words = w })
  effect_completes pages core page WriteIndexedEntry = λ apart. (refl, record { core = refl; words = w })
  effect_completes pages core page WriteRandomEntry = λ apart. (refl, record { core = refl; words = w })
  effect_completes pages core page ProbeEntry = λ apart. (refl, record { core = refl; words = w })

  operation_completes : (pages : ℕ) (core : Core) (i : Word) (operation : Option Operation)
      → Completes (completion_of_operation pages (at core own) i operation) (completion_of_operation pages (at core words) i operation)
  operation_completes pages core i None = refl
  operation_completes pages core i (Some operation) = effect_completes pages core i.page (effect_of operation (operands_of core operation))

  word_completes : (pages : ℕ) (core : Core) (i : Word) → Completes (completion_of_word pages (at core own) i) (completion_of_word pages (at core words) i)
  word_completes pages core i =
      elim (cases_Bool (is_unusable core i.word)) [
        | inl unusable ↦ rw unusable refl
        | inr usable ↦ rw usable (operation_completes pages core i (operation_of i.word))
      ]

  outcome_follows : (core : Core) (page : ℕ) (a b : Completion) → Completes a b → Follows (outcome_of_completion (at core own) page a) (outcome_of_completion (at core words) page b)
  outcome_follows core page (Err e) (Err f) same = λ apart. rw same (refl, record { core = refl; words = w })
  outcome_follows core page (Err e) (Ok p) same = absurd same
  outcome_follows core page (Ok o) (Err f) same = absurd same
  outcome_follows core page (Ok o) (Ok p) same = same

  -- an instruction by the place of its word
  place_follows : (pages : ℕ) (core : Core) (place : Option ℕ)
      → Follows (outcome_of_fetch pages (at core own) (word_or BusErrorFetch (word_of_place own place))) (outcome_of_fetch pages (at core words) (word_or BusErrorFetch (word_of_place words place)))
  place_follows pages core None = λ apart. (refl, record { core = refl; words = w })
  place_follows pages core (Some place) = λ apart.
      let i : Word = record { word = slice_index own place; page = page_of_place place } in
      let done = (outcome_of_completion (at core own) i.page (completion_of_word pages (at core own) i)).done in
      let begins = begins_with pages (at core own) i in
      let free : IsFalse (set i.page) = not_here set (λ page. touches page done) i.page apart (touched_first i.page (slice_index_or done.touched 0 None) (slice_index_or done.touched 1 None) begins) in
      subst (λ (word : ℕ). Follows (outcome_of_fetch pages (at core own) (Ok i)) (outcome_of_fetch pages (at core words) (Ok (record { word = word; page = page_of_place place }))))
      (w.outside place free)
      (outcome_follows core i.page (completion_of_word pages (at core own) i) (completion_of_word pages (at core words) i) (word_completes pages core i))
      apart

  fetch_follows : (pages : ℕ) (core : Core) (answer : Result Physical Exception)
      → Follows (outcome_of_fetch pages (at core own) (word_read pages own BusErrorFetch answer)) (outcome_of_fetch pages (at core words) (word_read pages words BusErrorFetch answer))
  fetch_follows pages core (Err e) = λ apart. (refl, record { core = refl; words = w })
  fetch_follows pages core (Ok physical) = place_follows pages core (place_of_word pages (physical.address / 4 * 4))

  turn_follows : (pages : ℕ) (core : Core) → Follows (outcome_of_interrupt_or_instruction pages (at core own)) (outcome_of_interrupt_or_instruction pages (at core words))
  turn_follows pages core =
      elim (cases_Bool (control.is_wanted core.cop0)) [
        | inl wanted ↦ rw wanted (λ apart. (refl, record { core = refl; words = w }))
        | inr not_wanted ↦ rw not_wanted (fetch_follows pages (met core (meaning_of_fetch core)) (meaning_of_fetch core).answer)
      ]

  fall_follows : (o p : Outcome) → Follows o p → Follows (with_fall o) (with_fall p)
  fall_follows o p same = λ apart. let f = same apart in (f.0, record { core = ap fallen f.1.core; words = f.1.words })

  pub step_follows : (pages : ℕ) (events : List LogEvent) (core : Core) → Follows (outcome_of_step pages events (at core own)) (outcome_of_step pages events (at core words))
  unfolding outcome_of_step
  step_follows pages events core =
      let begun = sampled (ticked (arrived events core)) in
      fall_follows (outcome_of_interrupt_or_instruction pages (at begun own)) (outcome_of_interrupt_or_instruction pages (at begun words)) (turn_follows pages begun)
