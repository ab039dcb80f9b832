use Rattle.std.proofs.Common.{◌≡◌, ℕ, ◌+◌, ◌-◌, ◌*◌, ◌<◌, List, length, slice_get, sym, ap, ◌∙◌, arith}
use Rattle.std.proofs.Math.Nat.{mul-le-mul_right}
use Rattle.r3k_live.specs.Record.{sent_from}
use Rattle.r3k_live.specs.declared.recorder.SentAt.{SentAt}
use Rattle.r3k_machine.specs.Run.{senders_of, trace_at}
use Rattle.r3k_machine.proofs.Splits.{senders_count}
use Rattle.present_run.specs.Sent.{steps_on}
use Rattle.present_run.specs.Runs.{steps_between}
use Rattle.present_run.proofs.Joined.{length_at, not_after}
use Rattle.present_run.proofs.Seeks.{found_after, found_front}
use Rattle.present_run.proofs.Reports.{senders_front, up_to_next}
use Rattle.present_run.proofs.present.Present.sender_before.Goals as goal

pub returns-then-index-spans : goal.returns-then-index-spans
returns-then-index-spans g c =
    let pages = g.row.PAGES in
    let span = g.row.SPAN in
    let image = c.args.self.now.inputs.image in
    let log = c.args.self.now.inputs.log in
    let same = ap (length_at pages span image log c.args.line) c.if-index-spans.true in
    omega (arith, senders_count c.args.line 0 (trace_at pages image log (c.args.spans * span)), c.count_of.ensures, c.sending_span-index.ensures.from, same)

pub returns : goal.returns
returns g c =
    let pages = g.row.PAGES in
    let span = g.row.SPAN in
    let image = c.args.self.now.inputs.image in
    let log = c.args.self.now.inputs.log in
    let line = c.args.line in
    let index = c.sending_span-index.result in
    let from = index * span in
    let to = (index + 1) * span in
    let end = c.args.spans * span in
    let left : ℕ = c.args.place - c.count_of.result in
    let steps = steps_between pages image log from to in
    let below : index < c.args.spans = omega (arith, c.sending_span-index.ensures.within, c.if-index-spans.false) in
    let found = ap (λ (s : List SentAt). slice_get (steps_on line s) left) (sym c.sent_in.ensures) ∙ (c.in_ok-step.ensures {u = tt}) in
    let front : length (senders_of line 0 (trace_at pages image log from)) + left ≡ c.args.place =
    omega (arith, senders_count line 0 (trace_at pages image log from), c.count_of.ensures, c.sending_span-index.ensures.from) in
    let here = found_after from (senders_of line 0 (trace_at pages image log from)) (steps_on line (sent_from 0 steps)) (senders_of line 0 (trace_at pages image log to))
    c.args.place left c.in_ok-step.step (senders_front pages image log line from to (up_to_next index span)) front found in
    found_front (senders_of line 0 (trace_at pages image log to)) _ (senders_of line 0 (trace_at pages image log end)) c.args.place (from + c.in_ok-step.step)
    (senders_front pages image log line to end (mul-le-mul_right span (omega (arith, below)))) here

pub returns-in_err-step : goal.returns-in_err-step
returns-in_err-step g c =
    let pages = g.row.PAGES in
    let span = g.row.SPAN in
    let image = c.args.self.now.inputs.image in
    let log = c.args.self.now.inputs.log in
    let line = c.args.line in
    let index = c.sending_span-index.result in
    let below : index < c.args.spans = omega (arith, c.sending_span-index.ensures.within, c.if-index-spans.false) in
    let beyond = ap (λ (s : List SentAt). length (steps_on line s) + c.in_err-step.field-0.0) (sym c.sent_in.ensures) ∙ (c.in_err-step.ensures {u = tt}) in
    absurd (not_after pages span image log line index c.args.place c.in_err-step.field-0.0 c.sending_span-index.ensures.from (c.sending_span-index.ensures.to below)
    (beyond ∙ ap (λ (n : ℕ). c.args.place - n) c.count_of.ensures))
