-- How many bytes of a line were sent.
use Rattle.std.proofs.Common.{◌≡◌, ◌≢◌, ℕ, suc, ◌+◌, ◌*◌, Option, Some, None, ◌<◌, ◌≤◌, ◌==◌, List, [], ◌∷◌, ◌++◌, length, slice_index, slice_set, refl, sym, ap, ◌∙◌, arith, inl, inr, length-append}
use Rattle.std.proofs.lemmas.Bool.{cases_Bool, eq-eqb, eqb-true, ne_eqb, true≢false}
use Rattle.std.proofs.lemmas.Grind.{get_or-set_at}
use Rattle.std.proofs.lemmas.List.{append-nil, get_or-set_other}
use Rattle.std.proofs.lemmas.List.Elements.{filter_map-append}
use Rattle.dz_serial.specs.declared.write.Sent.{Sent}
use Rattle.r3k_machine.specs.declared.step.Done.{Done}
use Rattle.r3k_machine.proofs.Splits.{trace_count}
use Rattle.r3k_live.specs.Record.{sent_from, with_sent}
use Rattle.r3k_live.specs.declared.recorder.SentAt.{SentAt}
use Rattle.span_fact.specs.Span.{Span, steps_of}
use Rattle.present_run.specs.Sent.{bytes_on, on_line}

-- not more than were sent
pub few_on : (line : ℕ) (sent : List SentAt) → length (bytes_on line sent) ≤ length sent
few_on line [] = omega arith
few_on line (one ∷ sent) =
    let rest = few_on line sent in
    elim (cases_Bool (one.line == line)) [
      | inl is ↦ rw is (omega (arith, rest))
      | inr other ↦ rw other (omega (arith, rest))
    ]

-- one more byte, on the line or on another
pub bytes_more : (line : ℕ) (front : List SentAt) (one : SentAt) → one.line ≡ line → length (bytes_on line (front ++ one ∷ [])) ≡ length (bytes_on line front) + 1
bytes_more line front one is =
    ap (λ (bytes : List ℕ). length bytes) (filter_map-append (on_line line (λ one. one.byte)) front (one ∷ []))
    ∙ (length-append (bytes_on line front) (bytes_on line (one ∷ []))
    ∙ ap (λ (n : ℕ). length (bytes_on line front) + n) (let e : length (bytes_on line (one ∷ [])) ≡ 1 = rw (eq-eqb one.line line is) refl in e))

pub bytes_none : (line : ℕ) (front : List SentAt) (one : SentAt) → one.line ≢ line → length (bytes_on line (front ++ one ∷ [])) ≡ length (bytes_on line front)
bytes_none line front one other =
    ap (λ (bytes : List ℕ). length bytes)
    (filter_map-append (on_line line (λ one. one.byte)) front (one ∷ [])
    ∙ (ap (λ (rest : List ℕ). bytes_on line front ++ rest) (let e : bytes_on line (one ∷ []) ≡ [] = rw (ne_eqb one.line line other) refl in e)
    ∙ append-nil (bytes_on line front)))

pub counted_one : (counts : List ℕ) (front : List SentAt) (one : SentAt) (line : ℕ) → one.line < length counts
    → slice_index counts line ≡ length (bytes_on line front)
    → slice_index (slice_set counts one.line (slice_index counts one.line + 1)) line ≡ length (bytes_on line (front ++ one ∷ []))
counted_one counts front one line within so_far =
    elim (cases_Bool (one.line == line)) [
      | inl is ↦
          let here = eqb-true one.line line is in
          get_or-set_at counts one.line line (slice_index counts one.line + 1) 0 (sym here) within
          ∙ (ap (λ (n : ℕ). slice_index counts n + 1) here ∙ (ap (λ (n : ℕ). n + 1) so_far ∙ sym (bytes_more line front one here)))
      | inr not ↦
          let other : one.line ≢ line = (λ here. true≢false (sym (eq-eqb one.line line here) ∙ not)) in
          get_or-set_other counts one.line line (slice_index counts one.line + 1) 0 (λ here. other (sym here)) ∙ (so_far ∙ sym (bytes_none line front one other))
    ]

-- at most one a step
few_more : (step : ℕ) (sent : Option Sent) (later : List SentAt) (n : ℕ) → length later ≤ n → length (with_sent step sent later) ≤ suc n
few_more step None later n few = omega (arith, few)
few_more step (Some sent) later n few = omega (arith, few)

few_sent : (first : ℕ) (steps : List Done) → length (sent_from first steps) ≤ length steps
few_sent first [] = omega arith
few_sent first (done ∷ steps) = few_more first done.sent (sent_from (suc first) steps) (length steps) (few_sent (suc first) steps)

pub few_in_span : (pages span : ℕ) (s : Span) (sent : List SentAt) → sent ≡ sent_from 0 (steps_of pages span s) → length sent ≤ span
few_in_span pages span s sent is =
    let few = few_sent 0 (steps_of pages span s) in
    let count = trace_count pages s.events (s.index * span) s.start span in
    let long = ap (λ (all : List SentAt). length all) is in
    omega (arith, few, count, long)
