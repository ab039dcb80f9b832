-- An instruction that was fetched reports the page of its word first.
use Rattle.std.proofs.Common.{◌≡◌, ℕ, ◌%◌, List, Option, Some, None, Result, Ok, Err, slice_index_or, inl, inr, refl}
use Rattle.std.proofs.lemmas.Bool.{cases_Bool}
use Rattle.r3k_decode.specs.Operation.{Operation}
use Rattle.r3k_decode.specs.Decoding.{operation_of}
use Rattle.r3k_exec.specs.Access.{stored}
use Rattle.r3k_exec.specs.Effects.{effect_of}
use Rattle.r3k_exec.specs.declared.access.LoadKind.{LoadKind}
use Rattle.r3k_exec.specs.declared.operands.Effect.{Effect}
use Rattle.r3k_exec.specs.declared.operands.Effect.TheVariants.{Write, WriteHi, WriteLo, WriteHiLo, Jump, JumpAndLink, Trap, Load, Store, MoveFromControl, MoveToControl, ReadEntry, WriteIndexedEntry, WriteRandomEntry, ProbeEntry, ReturnFromException}
use Rattle.r3k_machine.specs.declared.exception.Exception.{Exception}
use Rattle.r3k_machine.specs.declared.load_store.Loaded.{Loaded}
use Rattle.r3k_machine.specs.declared.load_store.Stored.{Stored}
use Rattle.r3k_machine.specs.declared.load_store.Word.{Word}
use Rattle.r3k_machine.specs.State.{State}
use Rattle.r3k_machine.specs.Exceptions.{is_unusable}
use Rattle.r3k_machine.specs.LoadStore.{core_after_load, core_after_store, loaded_from, stored_to, words_after}
use Rattle.r3k_machine.specs.Step.{Completion, completion_of_effect, completion_of_load, completion_of_operation, completion_of_store, completion_of_word, operands_of, outcome_of_completion}

-- so it is where it completes
abbrev Begins : ℕ → Completion → Type 0
Begins page (Err e) = Unit {0}
Begins page (Ok o) = slice_index_or o.done.touched 0 None ≡ Some page

load_begins : (s : State) (page : ℕ) (kind : LoadKind) (number address : ℕ) (r : Result Loaded Exception) → Begins page (completion_of_load s page kind number address r)
load_begins s page kind number address (Err e) = tt
load_begins s page kind number address (Ok a) = refl

store_begins : (s : State) (page : ℕ) (words : List ℕ) (r : Result Stored Exception) → Begins page (completion_of_store s page words r)
store_begins s page words (Err e) = tt
store_begins s page words (Ok a) = refl

effect_begins : (pages : ℕ) (s : State) (page : ℕ) (effect : Effect) → Begins page (completion_of_effect pages s page effect)
effect_begins pages s page (Write number value) = refl
effect_begins pages s page (WriteHi value) = refl
effect_begins pages s page (WriteLo value) = refl
effect_begins pages s page (WriteHiLo hi lo) = refl
effect_begins pages s page (Jump target) = refl
effect_begins pages s page (JumpAndLink target number value) = refl
effect_begins pages s page (Trap trap) = tt
effect_begins pages s page (Load kind number address) =
    load_begins (record { core = core_after_load pages s.core kind address; words = s.words }) page kind number address (loaded_from pages s.words s.core kind address)
effect_begins pages s page (Store kind address value) =
    store_begins (record { core = core_after_store pages s.core kind address value; words = s.words }) page
    (words_after s.words (stored_to pages s.core kind address value) (stored kind (address % 4) value)) (stored_to pages s.core kind address value)
effect_begins pages s page (MoveFromControl number control) = refl
effect_begins pages s page (MoveToControl control value) = refl
effect_begins pages s page ReturnFromException = refl
effect_begins pages s page ReadEntry = refl
effect_begins pages s page WriteIndexedEntry = refl
effect_begins pages s page WriteRandomEntry = refl
effect_begins pages s page ProbeEntry = refl

operation_begins : (pages : ℕ) (s : State) (i : Word) (operation : Option Operation) → Begins i.page (completion_of_operation pages s i operation)
operation_begins pages s i None = tt
operation_begins pages s i (Some operation) = effect_begins pages s i.page (effect_of operation (operands_of s.core operation))

word_begins : (pages : ℕ) (s : State) (i : Word) → Begins i.page (completion_of_word pages s i)
word_begins pages s i =
    elim (cases_Bool (is_unusable s.core i.word)) [
      | inl unusable ↦ rw unusable tt
      | inr usable ↦ rw usable (operation_begins pages s i (operation_of i.word))
    ]

outcome_begins : (s : State) (page : ℕ) (a : Completion) → Begins page a → slice_index_or (outcome_of_completion s page a).done.touched 0 None ≡ Some page
outcome_begins s page (Err e) begins = refl
outcome_begins s page (Ok o) begins = begins

pub begins_with : (pages : ℕ) (s : State) (i : Word) → slice_index_or (outcome_of_completion s i.page (completion_of_word pages s i)).done.touched 0 None ≡ Some i.page
begins_with pages s i = outcome_begins s i.page (completion_of_word pages s i) (word_begins pages s i)
