-- The pages that are recorded of a run as touched are all that its steps touch.
use Rattle.std.proofs.Common.{◌≡◌, ℕ, zero, suc, ◌+◌, ◌<◌, ◌≤◌, Bool, true, false, List, length, All, Option, Some, None, IfSome, nat_eq, slice_index_or, inl, inr, refl, sym, subst, ◌∙◌, arith}
use Rattle.std.proofs.lemmas.Bool.{cases_Bool, cases_lt, eqb-true, or_from}
use Rattle.std.proofs.lemmas.List.{get_or_past}
use Rattle.std.proofs.lemmas.List.Folds.{Any-from_list_any}
use Rattle.input_log.specs.Event.{LogEvent}
use Rattle.r3k_machine.specs.declared.step.Done.{Done}
use Rattle.r3k_machine.specs.State.{State}
use Rattle.r3k_machine.specs.Step.{report}
use Rattle.r3k_machine.specs.Run.{arriving, run, trace}
use Rattle.r3k_machine.specs.Reports.{IsPage}
use Rattle.r3k_machine.specs.Locality.{IsApart, is_page, is_touched, touches}
use Rattle.r3k_machine.proofs.Within.{pages_within}
use Rattle.r3k_pages.specs.Pages.{holds, page_count_of}
use Rattle.r3k_live.specs.Record.{touched_pages}
use Rattle.r3k_pages.proofs.Ascending.{holds_where, pages_set}
use Rattle.r3k_live.proofs.Recorded.{any_more}

-- a page past the last one is no page that is reported
not_past : (pages page : ℕ) (one : Option ℕ) → page_count_of pages ≤ page → IfSome one (IsPage pages) → is_page page one ≡ false
not_past pages page None past within = refl
not_past pages page (Some other) past within =
    elim (cases_Bool (nat_eq other page)) [
      | inl same ↦ absurd (let e = eqb-true other page same in let f : ⊥ = omega (arith, e, past, within) in f)
      | inr apart ↦ apart
    ]

step_not_past : (pages page : ℕ) (done : Done) → page_count_of pages ≤ page → All (λ one. IfSome one (IsPage pages)) done.touched → touches page done ≡ false
step_not_past pages page done past within =
    or_from (is_page page (slice_index_or done.touched 0 None)) (is_page page (slice_index_or done.touched 1 None)) (at 0) (at 1)
  where
    at : (k : ℕ) → is_page page (slice_index_or done.touched k None) ≡ false
    at k =
        elim (cases_lt k (length done.touched)) [
          | inl report ↦ not_past pages page (slice_index_or done.touched k None) past (within k None report)
          | inr over ↦ rw (get_or_past done.touched k None over) refl
        ]

none_past : (pages : ℕ) (log : List LogEvent) (time : ℕ) (s : State) (n page : ℕ) → page_count_of pages ≤ page → is_touched (trace pages log time s n) page ≡ false
unfolding trace
none_past pages log time s zero page past = refl
none_past pages log time s (suc n) page past =
    let done = report pages (arriving log (time + n)) (run pages log time s n) in
    any_more (touches page) (trace pages log time s n) done
    ∙ or_from (is_touched (trace pages log time s n) page) (touches page done) (none_past pages log time s n page past)
    (step_not_past pages page done past (pages_within pages (arriving log (time + n)) (run pages log time s n)))

-- nor is it recorded
of_held : (P : ℕ → Type 0) (set : List ℕ) (page : ℕ) → All P set → holds set page ≡ true → P page
of_held P set page all held =
    let at = Any-from_list_any (λ other. nat_eq other page) set held in
    subst P (at.3 ∙ eqb-true at.1 page at.4) (all at.0 at.1 at.2)

not_held : (pages : ℕ) (steps : List Done) (page : ℕ) → page_count_of pages ≤ page → holds (touched_pages pages steps) page ≡ false
not_held pages steps page past =
    elim (cases_Bool (holds (touched_pages pages steps) page)) [
      | inl held ↦
          let within = of_held (λ one. one < page_count_of pages) (touched_pages pages steps) page (pages_set pages (is_touched steps)).within held in
          absurd (let e : ⊥ = omega (arith, past, within) in e)
      | inr free ↦ free
    ]

pub recorded : (pages : ℕ) (log : List LogEvent) (time : ℕ) (s : State) (n page : ℕ)
    → holds (touched_pages pages (trace pages log time s n)) page ≡ is_touched (trace pages log time s n) page
recorded pages log time s n page =
    let steps = trace pages log time s n in
    elim (cases_lt page (page_count_of pages)) [
      | inl within ↦ holds_where pages (is_touched steps) page within
      | inr past ↦ not_held pages steps page past ∙ sym (none_past pages log time s n page past)
    ]

pub apart_from_all : (pages : ℕ) (log : List LogEvent) (time : ℕ) (set : ℕ → Bool) (s : State) (n : ℕ)
    → IsApart set (holds (touched_pages pages (trace pages log time s n))) → IsApart set (is_touched (trace pages log time s n))
apart_from_all pages log time set s n apart = λ page held. sym (recorded pages log time s n page) ∙ apart page held
