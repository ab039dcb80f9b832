-- What the joined records report together is what the run from reset reports.
use Rattle.std.proofs.Common.{◌≡◌, ℕ, suc, ◌+◌, ◌-◌, ◌*◌, ◌<◌, ◌≤◌, ◌++◌, inl, inr, List, [], ◌∷◌, length, length-append, map, Option, Some, None, refl, sym, ap, subst, ◌∙◌, arith}
use Rattle.std.proofs.Math.Nat.{mul-le-mul_right}
use Rattle.std.proofs.lemmas.Bool.{cases_lt}
use Rattle.std.proofs.lemmas.List.{append-nil, length-map}
use Rattle.std.specs.List.{cons_option}
use Rattle.input_log.specs.Event.{LogEvent}
use Rattle.r3k_image.specs.Boot.{Boot}
use Rattle.r3k_machine.specs.declared.step.Done.{Done}
use Rattle.r3k_machine.specs.declared.target.Target.{Target}
use Rattle.r3k_machine.specs.Run.{byte_on, console_of, last_writer, later, senders_of, trace_at}
use Rattle.r3k_machine.proofs.Splits.{senders_count}
use Rattle.r3k_live.specs.Record.{sent_from}
use Rattle.span_fact.specs.Span.{Span}
use Rattle.present_run.specs.Index.{IsLastWriter, IsSender, sent_below, steps_in}
use Rattle.present_run.specs.Sent.{bytes_on, steps_on}
use Rattle.present_run.proofs.Indexed.{sent_joined, step_of, writer_joined}
use Rattle.present_run.specs.Console.{Shows, part_of}
use Rattle.present_run.specs.Reuse.{span_of}
use Rattle.present_run.specs.Ends.{IsJoined}
use Rattle.present_run.specs.Runs.{steps_between}
use Rattle.present_run.proofs.Consoles.{enough}
use Rattle.present_run.specs.declared.sent.Shown.{Shown}
use Rattle.present_run.proofs.Near.{same_steps}
use Rattle.checkpoints.specs.Kept.{first_at}
use Rattle.present_run.proofs.Reports.{console_front, senders_front, span_steps, trace_none, up_to_next, writer_span, trace_long}

-- the first n records are joined
abbrev pub AreJoined : (pages span : ℕ) → Boot → List LogEvent → List (List Span) → ℕ → Type 0
AreJoined pages span image log spans count = (i : ℕ) → i < count → IsJoined pages span i (first_at spans i) (span_of pages span image log i)

steps_joined : (pages span : ℕ) (image : Boot) (log : List LogEvent) (i : ℕ) (o : Option Span) → IsJoined pages span i o (span_of pages span image log i)
    → steps_in pages span o ≡ steps_between pages image log (i * span) ((i + 1) * span)
steps_joined pages span image log i None joined = absurd joined.near
steps_joined pages span image log i (Some r) joined =
    same_steps pages span i (Some r) r (span_of pages span image log i) refl refl joined ∙ span_steps pages span image log i

pub writer_is : (pages span : ℕ) (image : Boot) (log : List LogEvent) (spans : List (List Span)) (count : ℕ) (target : Target) (found : Option (ℕ × ℕ))
    → AreJoined pages span image log spans count → IsLastWriter pages span spans count target found
    → last_writer target (trace_at pages image log (count * span)) ≡ step_of span found
writer_is pages span image log spans count target found joined last =
    writer_joined pages span spans count target (λ i. last_writer target (trace_at pages image log (i * span)))
    (ap (last_writer target) (trace_none pages span image log 0 refl))
    (λ i within.
    writer_span pages span image log target i (i + 1) refl
    ∙ ap (λ (steps : List Done). later (i * span) (last_writer target steps) (last_writer target (trace_at pages image log (i * span))))
    (sym (steps_joined pages span image log i (first_at spans i) (joined i within))))
    found last

-- how many bytes a line had where a span starts
abbrev pub length_at : (pages span : ℕ) → Boot → List LogEvent → (line index : ℕ) → ℕ
length_at pages span image log line index = length (console_of line (trace_at pages image log (index * span)))

pub count_is : (pages span : ℕ) (image : Boot) (log : List LogEvent) (spans : List (List Span)) (line count : ℕ)
    → AreJoined pages span image log spans count → sent_below pages span spans line count ≡ length_at pages span image log line count
count_is pages span image log spans line count joined =
    sent_joined pages span spans line count (length_at pages span image log line)
    (ap (λ (steps : List Done). length (console_of line steps)) (trace_none pages span image log 0 refl))
    (λ i within.
    ap (λ (bytes : List ℕ). length bytes) (sym (console_front pages image log line (i * span) ((i + 1) * span) (up_to_next i span)))
    ∙ (length-append (console_of line (trace_at pages image log (i * span))) (bytes_on line (sent_from 0 (steps_between pages image log (i * span) ((i + 1) * span))))
    ∙ ap (λ (steps : List Done). length_at pages span image log line i + length (bytes_on line (sent_from 0 steps)))
    (sym (steps_joined pages span image log i (first_at spans i) (joined i within)))))

-- the console grows
pub goes_on : (pages : ℕ) (image : Boot) (log : List LogEvent) (line from to : ℕ) → from ≤ to
    → length (console_of line (trace_at pages image log from)) ≤ length (console_of line (trace_at pages image log to))
goes_on pages image log line from to before =
    let front = console_of line (trace_at pages image log from) in
    let more = bytes_on line (sent_from 0 (steps_between pages image log from to)) in
    let long = ap (λ (bytes : List ℕ). length bytes) (sym (console_front pages image log line from to before)) ∙ length-append front more in
    omega (arith, long)

-- and does not, where no byte was sent
none : (bytes : List ℕ) → length bytes ≡ 0 → bytes ≡ []
none [] empty = refl
none (byte ∷ rest) empty = absurd (let e : ⊥ = omega (arith, empty) in e)

pub same_console : (pages : ℕ) (image : Boot) (log : List LogEvent) (line from to : ℕ) → from ≤ to
    → length (console_of line (trace_at pages image log to)) ≤ length (console_of line (trace_at pages image log from))
    → console_of line (trace_at pages image log to) ≡ console_of line (trace_at pages image log from)
same_console pages image log line from to before few =
    let front = console_of line (trace_at pages image log from) in
    let more = bytes_on line (sent_from 0 (steps_between pages image log from to)) in
    let whole = sym (console_front pages image log line from to before) in
    let long = ap (λ (bytes : List ℕ). length bytes) whole ∙ length-append front more in
    whole ∙ (ap (λ (bytes : List ℕ). front ++ bytes) (none more (omega (arith, long, few))) ∙ append-nil front)

-- the part is full already
pub shown_enough : (pages : ℕ) (image : Boot) (log : List LogEvent) (line from count begin end : ℕ) (bytes : List ℕ) → begin ≤ end
    → bytes ≡ part_of from count (console_of line (trace_at pages image log begin)) → count ≤ length bytes
    → bytes ≡ part_of from count (console_of line (trace_at pages image log end))
shown_enough pages image log line from count begin end bytes before is full =
    let front = console_of line (trace_at pages image log begin) in
    let more = bytes_on line (sent_from 0 (steps_between pages image log begin end)) in
    is
    ∙ (sym (enough from count front more (subst (λ (part : List ℕ). count ≤ length part) is full))
    ∙ ap (part_of from count) (console_front pages image log line begin end before))

-- where the byte at a place was sent
pub sender_from : (pages span : ℕ) (image : Boot) (log : List LogEvent) (spans : List (List Span)) (line place count index : ℕ)
    → AreJoined pages span image log spans count → IsSender pages span spans line place count index
    → length_at pages span image log line index ≤ place
sender_from pages span image log spans line place count index joined is =
    omega (arith, is.from, count_is pages span image log spans line index (λ i below. joined i (omega (arith, below, is.within))))

pub sender_to : (pages span : ℕ) (image : Boot) (log : List LogEvent) (spans : List (List Span)) (line place count index : ℕ)
    → AreJoined pages span image log spans count → IsSender pages span spans line place count index → index < count
    → place < length_at pages span image log line (index + 1)
sender_to pages span image log spans line place count index joined is more =
    omega (arith, is.to more, count_is pages span image log spans line (index + 1) (λ i below. joined i (omega (arith, below, more))))

-- at most one byte a step
few_more : (byte : Option ℕ) (bytes : List ℕ) (n : ℕ) → length bytes ≤ n → length (cons_option byte bytes) ≤ suc n
few_more None bytes n few = omega (arith, few)
few_more (Some byte) bytes n few = omega (arith, few)

few_bytes : (line : ℕ) (steps : List Done) → length (console_of line steps) ≤ length steps
few_bytes line [] = omega arith
few_bytes line (done ∷ steps) = few_more (byte_on line done.sent) (console_of line steps) (length steps) (few_bytes line steps)

pub few_at : (pages span : ℕ) (image : Boot) (log : List LogEvent) (line index : ℕ) → length_at pages span image log line index ≤ index * span
few_at pages span image log line index =
    omega (arith, few_bytes line (trace_at pages image log (index * span)), trace_long pages image log (index * span))

-- the next span that sent a byte
pub later_sender : (pages span : ℕ) (image : Boot) (log : List LogEvent) (line index next spans total : ℕ) → index < spans
    → total ≡ length_at pages span image log line (index + 1) → (next < spans → total < length_at pages span image log line (next + 1)) → index + 1 ≤ next
later_sender pages span image log line index next spans total within is to =
    elim (cases_lt next (index + 1)) [
      | inl before ↦
          let more = goes_on pages image log line ((next + 1) * span) ((index + 1) * span) (mul-le-mul_right span (omega (arith, before))) in
          absurd (let e : ⊥ = omega (arith, to (omega (arith, before, within)), is, more) in e)
      | inr beyond ↦ beyond
    ]

pub shows_next : (pages span : ℕ) (image : Boot) (log : List LogEvent) (line from count index next : ℕ) (shown : Shown) → index + 1 ≤ next
    → length_at pages span image log line next ≤ shown.total
    → Shows from count (console_of line (trace_at pages image log ((index + 1) * span))) shown
    → Shows from count (console_of line (trace_at pages image log (next * span))) shown
shows_next pages span image log line from count index next shown beyond few shows =
    subst (λ (bytes : List ℕ). Shows from count bytes shown)
    (sym (same_console pages image log line ((index + 1) * span) (next * span) (mul-le-mul_right span beyond) (subst (λ (n : ℕ). length_at pages span image log line next ≤ n) shows.0 few)))
    shows

-- a byte that a span sent has a place among that span's bytes
pub not_after : (pages span : ℕ) (image : Boot) (log : List LogEvent) (line index place more : ℕ)
    → length_at pages span image log line index ≤ place → place < length_at pages span image log line (index + 1)
    → ¬ (length (steps_on line (sent_from 0 (steps_between pages image log (index * span) ((index + 1) * span)))) + more ≡ place - length_at pages span image log line index)
not_after pages span image log line index place more low high beyond =
    let from = index * span in
    let to = (index + 1) * span in
    let steps = steps_between pages image log from to in
    let here = steps_on line (sent_from 0 steps) in
    let front = senders_of line 0 (trace_at pages image log from) in
    let whole = ap (λ (xs : List ℕ). length xs) (senders_front pages image log line from to (up_to_next index span)) in
    let long : length (front ++ map (λ k. from + k) here) ≡ length front + length here =
    length-append front (map (λ k. from + k) here) ∙ ap (λ (n : ℕ). length front + n) (length-map here (λ k. from + k)) in
    (let e : ⊥ = omega (arith, beyond, low, high, whole, long, senders_count line 0 (trace_at pages image log from), senders_count line 0 (trace_at pages image log to)) in e)
