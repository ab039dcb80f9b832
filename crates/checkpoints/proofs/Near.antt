-- What follows where a span nearly applies.
use Rattle.std.proofs.Common.{◌≡◌, ℕ, ◌+◌, ◌-◌, ◌*◌, ◌≤◌, ◌++◌, Bool, not, IsFalse, IsTrue, List, length, sym, ap, ◌∙◌, subst, arith}
use Rattle.std.proofs.lemmas.Bool.{or_parts}
use Rattle.std.proofs.lemmas.List.Folds.{list_any-append}
use Rattle.input_log.specs.Event.{LogEvent}
use Rattle.r3k_machine.specs.State.{State}
use Rattle.r3k_machine.specs.Run.{run, trace}
use Rattle.r3k_machine.specs.Locality.{IsApart, is_touched, touches}
use Rattle.r3k_machine.specs.declared.step.Done.{Done}
use Rattle.r3k_machine.proofs.Splits.{trace_split}
use Rattle.r3k_machine.proofs.Elsewhere.{run_elsewhere}
use Rattle.r3k_pages.specs.Pages.{SameOutside, holds, overlaid}
use Rattle.r3k_live.specs.Record.{touched_pages}
use Rattle.r3k_live.proofs.Apart.{apart_from_all}
use Rattle.r3k_live.proofs.Overlaid.{differing, no_page_of_both, outside_carried, same_on, state_overlaid}
use Rattle.span_fact.specs.Span.{Span, end_of, steps_of}
use Rattle.checkpoints.specs.Kept.{NearlyApplies}

pub near_steps : (pages span : ℕ) (s : Span) (start : State) (events : List LogEvent) → NearlyApplies pages span s start events → length start.words ≡ length s.start.words
    → trace pages events (s.index * span) start span ≡ steps_of pages span s
near_steps pages span s start events near long =
    let touched = touched_pages pages (steps_of pages span s) in
    let none = apart_from_all pages s.events (s.index * span) (λ page. not (holds touched page)) s.start span (no_page_of_both touched) in
    let same = run_elsewhere pages s.events (s.index * span) (λ page. not (holds touched page)) s.start start start.words span
    (same_on touched s.start start (sym near.same_core) long near.same_touched) none
    in
    subst (λ (log : List LogEvent). trace pages log (s.index * span) start span ≡ steps_of pages span s) near.same_events same.0

pub near_cores : (pages span : ℕ) (s : Span) (start : State) (events : List LogEvent) → NearlyApplies pages span s start events → length start.words ≡ length s.start.words
    → (k : ℕ) → k ≤ span → (run pages events (s.index * span) start k).core ≡ (run pages s.events (s.index * span) s.start k).core
near_cores pages span s start events near long k within =
    let touched = touched_pages pages (steps_of pages span s) in
    let set : ℕ → Bool = λ page. not (holds touched page) in
    let from = s.index * span in
    let first = trace pages s.events from s.start k in
    let rest = trace pages s.events (from + k) (run pages s.events from s.start k) (span - k) in
    let parts : trace pages s.events from s.start span ≡ first ++ rest =
    ap (trace pages s.events from s.start) (let e : span ≡ k + (span - k) = omega (arith, within) in e) ∙ trace_split pages s.events from s.start k (span - k) in
    let none = apart_from_all pages s.events from set s.start span (no_page_of_both touched) in
    let none_first : IsApart set (is_touched first) = λ page held.
    (or_parts (is_touched first page) (is_touched rest page)
    (sym (list_any-append (touches page) first rest) ∙ (ap (λ (steps : List Done). is_touched steps page) (sym parts) ∙ none page held))).0 in
    let same = run_elsewhere pages s.events from set s.start start start.words k (same_on touched s.start start (sym near.same_core) long near.same_touched) none_first in
    subst (λ (log : List LogEvent). (run pages log from start k).core ≡ (run pages s.events from s.start k).core) near.same_events same.1.core

pub near_end : (pages span : ℕ) (s : Span) (start : State) (events : List LogEvent) (wider carried : List ℕ)
    → NearlyApplies pages span s start events → length start.words ≡ length s.start.words → SameOutside wider s.start.words start.words
    → IsApart (holds carried) (holds (touched_pages pages (steps_of pages span s)))
    → ((page : ℕ) → IsTrue (holds wider page) → IsFalse (holds (touched_pages pages (steps_of pages span s)) page) → IsTrue (holds carried page))
    → ◌≡◌ {A = State} (run pages events (s.index * span) start span) (record (end_of pages span s) { words = overlaid carried (end_of pages span s).words start.words })
near_end pages span s start events wider carried near long outside apart all =
    let touched = touched_pages pages (steps_of pages span s) in
    let with_pages = differing carried s.start start (sym near.same_core) long (outside_carried touched wider carried s.start.words start.words near.same_touched outside all) in
    let none = apart_from_all pages s.events (s.index * span) (holds carried) s.start span apart in
    let same = run_elsewhere pages s.events (s.index * span) (holds carried) s.start start start.words span with_pages none in
    subst (λ (log : List LogEvent). ◌≡◌ {A = State} (run pages log (s.index * span) start span) (record (end_of pages span s) { words = overlaid carried (end_of pages span s).words start.words })) near.same_events
    (state_overlaid carried (end_of pages span s) start.words (run pages s.events (s.index * span) start span) same.1)
