-- The page of the word that a step stores into is the second one that it touches.
use Rattle.std.proofs.Common.{◌≡◌, ℕ, ◌/◌, ◌%◌, ◌∷◌, [], List, Bool, true, false, if◌then◌else◌, Option, None, Some, Ok, Err, IfOk, IfSome, slice_index_or, refl, inl, inr}
use Rattle.std.proofs.lemmas.Bool.{cases_Bool}
use Rattle.cop0.specs.Changes.{is_wanted}
use Rattle.input_log.specs.Event.{LogEvent}
use Rattle.r3k_word.specs.declared.layout.TheConstants.{PAGE_BYTES}
use Rattle.r3k_decode.specs.Decoding.{operation_of}
use Rattle.r3k_exec.specs.Access.{stored}
use Rattle.r3k_exec.specs.Effects.{effect_of}
use Rattle.r3k_exec.specs.declared.operands.Effect.{Effect}
use Rattle.r3k_exec.specs.declared.operands.Effect.TheVariants.{Write, WriteHi, WriteLo, WriteHiLo, Jump, JumpAndLink, Trap, Load, Store, MoveFromControl, MoveToControl, ReturnFromException, ReadEntry, WriteIndexedEntry, WriteRandomEntry, ProbeEntry}
use Rattle.r3k_machine.specs.Address.{met}
use Rattle.r3k_machine.specs.Exceptions.{is_unusable}
use Rattle.r3k_machine.specs.LoadStore.{core_after_load, core_after_store, fetched, loaded_from, meaning_of_fetch, stored_to, words_after}
use Rattle.r3k_machine.specs.State.{State}
use Rattle.r3k_machine.specs.Step.{Completion, Outcome, arrived, completion_of_effect, completion_of_load, completion_of_operation, completion_of_store, completion_of_word, fetching, interrupted, operands_of, outcome_of_completion, outcome_of_fetch, outcome_of_instruction, outcome_of_step, page_stored, report, sampled, ticked}
use Rattle.r3k_live.specs.Recording.{TouchesStored}

abbrev Completes : Completion → Type 0
Completes completion = IfOk completion (λ outcome. TouchesStored outcome.done)

second : (page : ℕ) (address : Option ℕ) → IfSome address (λ a. slice_index_or (Some page ∷ page_stored address ∷ []) 1 None ≡ Some (a / PAGE_BYTES))
second page None = tt
second page (Some address) = refl

of_effect : (pages : ℕ) (s : State) (page : ℕ) (effect : Effect) → Completes (completion_of_effect pages s page effect)
of_effect pages s page (Write number value) = tt
of_effect pages s page (WriteHi value) = tt
of_effect pages s page (WriteLo value) = tt
of_effect pages s page (WriteHiLo hi lo) = tt
of_effect pages s page (Jump target) = tt
of_effect pages s page (JumpAndLink target number value) = tt
of_effect pages s page (Trap trap) = tt
of_effect pages s page (Load kind number address) =
    elim (loaded_from pages s.words s.core kind address) as (λ r. Completes (completion_of_load (record s { core = core_after_load pages s.core kind address }) page kind number address r)) [
      | Err e ↦ tt
      | Ok a ↦ tt
    ]
of_effect pages s page (Store kind address value) =
    elim (stored_to pages s.core kind address value) as (λ r. Completes (completion_of_store (record s { core = core_after_store pages s.core kind address value }) page (words_after s.words r (stored kind (address % 4) value)) r)) [
      | Err e ↦ tt
      | Ok a ↦ second page a.address
    ]
of_effect pages s page (MoveFromControl number control) = tt
of_effect pages s page (MoveToControl control value) = tt
of_effect pages s page ReturnFromException = tt
of_effect pages s page ReadEntry = tt
of_effect pages s page WriteIndexedEntry = tt
of_effect pages s page WriteRandomEntry = tt
of_effect pages s page ProbeEntry = tt

of_completion : (s : State) (page : ℕ) (completion : Completion) → Completes completion → TouchesStored (outcome_of_completion s page completion).done
of_completion s page (Ok outcome) so = so
of_completion s page (Err fault) so = tt

-- by an instruction
pub instruction_touches : (pages : ℕ) (s : State) → TouchesStored (outcome_of_instruction pages s).done
instruction_touches pages before =
    let s = record before { core = met before.core (meaning_of_fetch before.core) } in
    elim (fetched pages before.words before.core) as (λ r. TouchesStored (outcome_of_fetch pages s r).done) [
      | Err e ↦ tt
      | Ok w ↦
          of_completion s w.page (completion_of_word pages s w)
          (elim (cases_Bool (is_unusable s.core w.word)) [
            | inl unusable ↦ rw unusable tt
            | inr usable ↦
                rw usable
                (elim (operation_of w.word) as (λ operation. Completes (completion_of_operation pages s w operation)) [
                  | None ↦ tt
                  | Some i ↦ of_effect pages s w.page (effect_of i (operands_of s.core i))
                ])
          ])
    ]

either : (b : Bool) (o p : Outcome) → TouchesStored o.done → TouchesStored p.done → TouchesStored (if b then o else p).done
either true o p so other = so
either false o p so other = other

-- by a step
pub step_touches : (pages : ℕ) (events : List LogEvent) (s : State) → TouchesStored (report pages events s)
unfolding outcome_of_step
step_touches pages events before =
    let s = record before { core = sampled (ticked (arrived events before.core)) } in
    either (is_wanted s.core.cop0) (record { state = record s { core = interrupted s.core }; done = fetching None }) (outcome_of_instruction pages s) tt (instruction_touches pages s)
