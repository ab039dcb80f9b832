use Rattle.std.proofs.Common.{◌*◌, ◌+◌, List, length, slice_get, sym, ap, ◌∙◌, arith}
use Rattle.std.proofs.lemmas.Option.{slice_get_past}
use Rattle.r3k_live.specs.declared.recorder.SentAt.{SentAt}
use Rattle.r3k_machine.specs.Run.{senders_of, trace_at}
use Rattle.present_run.specs.Sent.{steps_on}
use Rattle.present_run.proofs.Seeks.{found_after, found_front, left_after}
use Rattle.present_run.proofs.Reports.{senders_front}
use Rattle.present_run.proofs.present.Present.sender.Goals as goal

pub returns-in-Ok-clause-sender : goal.returns-in-Ok-clause-sender
returns-in-Ok-clause-sender g c =
    let inputs = c.record.new.self.inputs in
    let from = c.in_ok-index.index * g.row.SPAN in
    sym (found_front (senders_of c.args.line 0 (trace_at g.row.PAGES inputs.image inputs.log from)) _ (senders_of c.args.line 0 (trace_at g.row.PAGES inputs.image inputs.log c.args.position)) c.args.place c.in-Ok.step
    (senders_front g.row.PAGES inputs.image inputs.log c.args.line from c.args.position (c.in_ok-index.ensures {u = tt}).before) (c.in-Ok.ensures {u = tt}))

pub returns-in-Ok-seek-clause-sender : goal.returns-in-Ok-seek-clause-sender
returns-in-Ok-seek-clause-sender g c =
    let inputs = c.record.new.self.inputs in
    let line = c.args.line in
    let recorded = c.in_ok-index.ensures {u = tt} in
    let from = c.in_ok-index.index * g.row.SPAN in
    sym (found_after from (senders_of line 0 (trace_at g.row.PAGES inputs.image inputs.log from)) _ (senders_of line 0 (trace_at g.row.PAGES inputs.image inputs.log c.args.position))
    c.args.place c.in-Err.left c.in-Ok-seek.step (senders_front g.row.PAGES inputs.image inputs.log line from c.args.position recorded.before) (c.in-Err.ensures {u = tt})
    (ap (λ (s : List SentAt). slice_get (steps_on line s) c.in-Err.left) (sym (c.sent.ensures.sent _ recorded.recorded)) ∙ (c.in-Ok-seek.ensures {u = tt})))

pub returns-in-Err-seek-clause-sender : goal.returns-in-Err-seek-clause-sender
returns-in-Err-seek-clause-sender g c =
    let inputs = c.record.new.self.inputs in
    let line = c.args.line in
    let recorded = c.in_ok-index.ensures {u = tt} in
    let from = c.in_ok-index.index * g.row.SPAN in
    let all = senders_of line 0 (trace_at g.row.PAGES inputs.image inputs.log c.args.position) in
    let more = c.in-Err-seek.field-0 in
    let left = left_after from (senders_of line 0 (trace_at g.row.PAGES inputs.image inputs.log from)) _ all
    c.args.place c.in-Err.left more (senders_front g.row.PAGES inputs.image inputs.log line from c.args.position recorded.before) (c.in-Err.ensures {u = tt})
    (ap (λ (s : List SentAt). length (steps_on line s) + more) (sym (c.sent.ensures.sent _ recorded.recorded)) ∙ (c.in-Err-seek.ensures {u = tt})) in
    sym (slice_get_past all c.args.place (omega (arith, left)))
