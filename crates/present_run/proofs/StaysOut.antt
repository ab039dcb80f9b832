-- A span in which the PC stands nowhere in a page.
use Rattle.std.proofs.Common.{◌≡◌, ◌↔◌, ℕ, zero, suc, ◌+◌, ◌-◌, ◌*◌, ◌/◌, ◌<◌, ◌≤◌, ◌==◌, List, Option, Some, None, inl, inr, refl, sym, ap, ◌∙◌, arith, zero-add}
use Rattle.std.proofs.lemmas.Bool.{cases_Bool, eqb-true}
use Rattle.input_log.specs.Event.{LogEvent}
use Rattle.r3k_word.specs.declared.layout.TheConstants.{PAGE_BYTES}
use Rattle.r3k_image.specs.Boot.{Boot}
use Rattle.r3k_machine.specs.Core.{Core}
use Rattle.r3k_machine.specs.Reset.{reset}
use Rattle.r3k_machine.specs.Run.{next_visit, run, state_at}
use Rattle.r3k_machine.specs.State.{State}
use Rattle.r3k_machine.proofs.Splits.{run_split, run_within}
use Rattle.r3k_live.specs.CodePages.{RunsIn}
use Rattle.span_fact.specs.Span.{Span, SpanRunsIn}
use Rattle.checkpoints.proofs.Near.{near_cores}
use Rattle.present_run.specs.Ends.{IsJoined}
use Rattle.present_run.specs.Reuse.{span_of}
use Rattle.present_run.proofs.Near.{nearly}
use Rattle.present_run.proofs.Spans.{if_some, next_start}

-- the record of a joined span says where the PC stands in it
pub stands_too : (pages span index : ℕ) (image : Boot) (log : List LogEvent) (o : Option Span) (r : Span) (page : ℕ) → o ≡ Some r
    → IsJoined pages span index o (span_of pages span image log index)
    → SpanRunsIn pages span r page ↔ RunsIn pages log (index * span) (state_at pages image log (index * span)) span page
stands_too pages span index image log o r page is joined = (
  λ stood. (stood.0, stood.1, ap (λ (pc : ℕ). pc / PAGE_BYTES) (sym (same_pc stood.0 stood.1)) ∙ stood.2),
  λ stands. (stands.0, stands.1, ap (λ (pc : ℕ). pc / PAGE_BYTES) (same_pc stands.0 stands.1) ∙ stands.2),
)
  where
    s : Span
    s = span_of pages span image log index

    same_pc : (k : ℕ) → k ≤ span → (run pages r.events (r.index * span) r.start k).core.pc ≡ (run pages log (index * span) s.start k).core.pc
    same_pc k within =
        let number : r.index ≡ index = if_some _ o r is joined.number in
        let cores = near_cores pages span r s.start s.events (nearly pages span o r s.start s.events is joined.near) (if_some _ o r is joined.long) k within in
        ap (λ (core : Core). core.pc) (sym cores)
        ∙ (ap (λ (n : ℕ). (run pages s.events (n * span) s.start k).core.pc) number
        ∙ ap (λ (t : State). t.core.pc) (run_within pages ((index + 1) * span) log (index * span) s.start k (omega (arith, within, next_start index span))))

-- none of some positions holds the address in PC
passes : (pages : ℕ) (image : Boot) (log : List LogEvent) (address time n : ℕ)
    → ((k : ℕ) → time < k → k ≤ time + n → ¬ ((state_at pages image log k).core.pc ≡ address)) → next_visit pages image log address time n ≡ None
unfolding next_visit
passes pages image log address time zero none = refl
passes pages image log address time (suc n) none =
    elim (cases_Bool ((state_at pages image log (suc time)).core.pc == address)) [
      | inl here ↦ absurd (none (suc time) (omega arith) (omega arith) (eqb-true (state_at pages image log (suc time)).core.pc address here))
      | inr apart ↦ rw apart (passes pages image log address (suc time) n (λ k after before. none k (omega (arith, after)) (omega (arith, before))))
    ]

-- a search within a span in which the PC stands nowhere in the page of the address finds nothing
pub none_within : (pages : ℕ) (image : Boot) (log : List LogEvent) (address from span time to : ℕ)
    → ¬ RunsIn pages log from (state_at pages image log from) span (address / PAGE_BYTES) → from ≤ time → time ≤ to → to ≤ from + span
    → next_visit pages image log address time (to - time) ≡ None
none_within pages image log address from span time to out low before high =
    passes pages image log address time (to - time)
    (λ k after within there.
    out (k - from, omega (arith, within, low, before, high), ap (λ (s : State). s.core.pc / PAGE_BYTES) (state_is k (omega (arith, low, after))) ∙ ap (λ (a : ℕ). a / PAGE_BYTES) there))
  where
    state_is : (k : ℕ) → from ≤ k → run pages log from (state_at pages image log from) (k - from) ≡ state_at pages image log k
    state_is k above =
        ap (λ (t : ℕ). run pages log t (state_at pages image log from) (k - from)) (sym (zero-add from))
        ∙ (sym (run_split pages log 0 (reset pages image) from (k - from))
        ∙ ap (state_at pages image log) (let e : from + (k - from) ≡ k = omega (arith, above) in e))
