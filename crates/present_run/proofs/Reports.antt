-- What the run from reset reports up to a position: by an earlier position, and the steps after it.
use Rattle.std.proofs.Common.{◌≡◌, ℕ, ◌+◌, ◌-◌, ◌*◌, ◌≤◌, ◌++◌, sym, ap, ◌∙◌, arith, zero-add, List, length, map, [], add-zero}
use Rattle.std.proofs.Math.Path.{ap₂}
use Rattle.input_log.specs.Event.{LogEvent}
use Rattle.input_log.specs.Log.{window_of}
use Rattle.r3k_image.specs.Boot.{Boot}
use Rattle.r3k_machine.specs.State.{State}
use Rattle.r3k_machine.specs.declared.target.Target.{Target}
use Rattle.r3k_machine.specs.Run.{console_of, last_writer, later, senders_of, state_at, trace, trace_at}
use Rattle.r3k_machine.proofs.Splits.{console_split, senders_split, trace_count, trace_own, writer_split, trace_split}
use Rattle.r3k_live.specs.Record.{sent_from}
use Rattle.span_fact.specs.Span.{steps_of}
use Rattle.present_run.specs.Reuse.{span_of}
use Rattle.present_run.specs.Runs.{steps_between}
use Rattle.present_run.specs.Sent.{bytes_on, steps_on}
use Rattle.present_run.proofs.Sending.{console_sent, senders_sent}
use Rattle.present_run.proofs.Spans.{next_start}
use Rattle.r3k_machine.specs.Reset.{reset}

pub trace_long : (pages : ℕ) (image : Boot) (log : List LogEvent) (time : ℕ) → length (trace_at pages image log time) ≡ time
trace_long pages image log time = trace_count pages log 0 (reset pages image) time

-- a trace goes on from a front of it
pub trace_front : (pages : ℕ) (image : Boot) (log : List LogEvent) (time position : ℕ) → time ≤ position
    → trace_at pages image log position ≡ trace_at pages image log time ++ trace pages log time (state_at pages image log time) (position - time)
trace_front pages image log time position before =
    ap (trace pages log 0 (reset pages image)) (let e : position ≡ time + (position - time) = omega (arith, before) in e)
    ∙ (trace_split pages log 0 (reset pages image) time (position - time)
    ∙ ap (λ (t : ℕ). trace_at pages image log time ++ trace pages log t (state_at pages image log time) (position - time)) (zero-add time))

-- the steps of a span
pub span_steps : (pages span : ℕ) (image : Boot) (log : List LogEvent) (index : ℕ)
    → steps_of pages span (span_of pages span image log index) ≡ steps_between pages image log (index * span) ((index + 1) * span)
span_steps pages span image log index =
    let from = index * span in
    let start = state_at pages image log from in
    ap (λ (to : ℕ). trace pages (window_of from to log) from start span) (next_start index span)
    ∙ (trace_own pages log from start span
    ∙ ap (trace pages log from start) (let e : span ≡ (index + 1) * span - from = omega (arith, next_start index span) in e))

-- the steps up to a position, with the events of their times
pub own_steps : (pages : ℕ) (image : Boot) (log events : List LogEvent) (s : State) (from position : ℕ) → from ≤ position → events ≡ window_of from position log
    → s ≡ state_at pages image log from → trace pages events from s (position - from) ≡ steps_between pages image log from position
own_steps pages image log events s from position before events_are stands =
    ap₂ (λ (events : List LogEvent) (s : State). trace pages events from s (position - from)) events_are stands
    ∙ (ap (λ (to : ℕ). trace pages (window_of from to log) from (state_at pages image log from) (position - from)) (let e : position ≡ from + (position - from) = omega (arith, before) in e)
    ∙ trace_own pages log from (state_at pages image log from) (position - from))

pub between_count : (pages : ℕ) (image : Boot) (log : List LogEvent) (from to : ℕ) → length (steps_between pages image log from to) ≡ to - from
between_count pages image log from to = trace_count pages log from (state_at pages image log from) (to - from)

pub writer_front : (pages : ℕ) (image : Boot) (log : List LogEvent) (target : Target) (from position : ℕ) → from ≤ position
    → last_writer target (trace_at pages image log position)
    ≡ later from (last_writer target (steps_between pages image log from position)) (last_writer target (trace_at pages image log from))
writer_front pages image log target from position before =
    ap (last_writer target) (trace_front pages image log from position before)
    ∙ (writer_split target (trace_at pages image log from) (steps_between pages image log from position)
    ∙ ap (λ (n : ℕ). later n (last_writer target (steps_between pages image log from position)) (last_writer target (trace_at pages image log from)))
    (trace_long pages image log from))

pub console_front : (pages : ℕ) (image : Boot) (log : List LogEvent) (line from position : ℕ) → from ≤ position
    → console_of line (trace_at pages image log from) ++ bytes_on line (sent_from 0 (steps_between pages image log from position))
    ≡ console_of line (trace_at pages image log position)
console_front pages image log line from position before =
    let steps = steps_between pages image log from position in
    ap (λ (bytes : List ℕ). console_of line (trace_at pages image log from) ++ bytes) (console_sent line 0 steps)
    ∙ (sym (console_split line (trace_at pages image log from) steps)
    ∙ ap (console_of line) (sym (trace_front pages image log from position before)))

pub senders_front : (pages : ℕ) (image : Boot) (log : List LogEvent) (line from position : ℕ) → from ≤ position
    → senders_of line 0 (trace_at pages image log position)
    ≡ senders_of line 0 (trace_at pages image log from) ++ map (λ k. from + k) (steps_on line (sent_from 0 (steps_between pages image log from position)))
senders_front pages image log line from position before =
    let steps = steps_between pages image log from position in
    let front = senders_of line 0 (trace_at pages image log from) in
    ap (senders_of line 0) (trace_front pages image log from position before)
    ∙ (senders_split line 0 (trace_at pages image log from) steps
    ∙ ap (λ (rest : List ℕ). front ++ rest)
    (ap (λ (t : ℕ). senders_of line t steps) (zero-add (length (trace_at pages image log from)) ∙ (trace_long pages image log from ∙ sym (add-zero from)))
    ∙ senders_sent line from 0 steps))

-- a span and the next one
pub up_to_next : (index span : ℕ) → index * span ≤ (index + 1) * span
up_to_next index span = omega (arith, next_start index span)

pub writer_span : (pages span : ℕ) (image : Boot) (log : List LogEvent) (target : Target) (index next : ℕ) → next ≡ index + 1
    → last_writer target (trace_at pages image log (next * span))
    ≡ later (index * span) (last_writer target (steps_between pages image log (index * span) ((index + 1) * span))) (last_writer target (trace_at pages image log (index * span)))
writer_span pages span image log target index next is =
    ap (λ (n : ℕ). last_writer target (trace_at pages image log (n * span))) is
    ∙ writer_front pages image log target (index * span) ((index + 1) * span) (up_to_next index span)

pub trace_none : (pages span : ℕ) (image : Boot) (log : List LogEvent) (index : ℕ) → index ≡ 0 → trace_at pages image log (index * span) ≡ []
unfolding trace
trace_none pages span image log index is = ap (λ (n : ℕ). trace_at pages image log (n * span)) is ∙ ap (trace_at pages image log) (let e : 0 * span ≡ 0 = omega arith in e)
