use Rattle.std.proofs.Common.{ℕ, ◌*◌, Option, sym, ap, ◌∙◌}
use Rattle.r3k_machine.specs.Run.{last_writer, later, trace_at}
use Rattle.present_run.proofs.Reports.{writer_front}
use Rattle.present_run.proofs.present.Present.last_writer.Goals as goal

pub returns-in-Some-clause-writer : goal.returns-in-Some-clause-writer
returns-in-Some-clause-writer g c =
    let inputs = c.record.new.self.inputs in
    let recorded = c.in_ok-index.ensures {u = tt} in
    let from = c.in_ok-index.index * g.row.SPAN in
    sym (writer_front g.row.PAGES inputs.image inputs.log c.args.target from c.args.position recorded.before
    ∙ ap (λ (o : Option ℕ). later from o (last_writer c.args.target (trace_at g.row.PAGES inputs.image inputs.log from)))
    (sym (c.writer.ensures _ recorded.recorded) ∙ c.in-Some.is))

pub returns-clause-writer : goal.returns-clause-writer
returns-clause-writer g c =
    let inputs = c.record.new.self.inputs in
    let recorded = c.in_ok-index.ensures {u = tt} in
    let from = c.in_ok-index.index * g.row.SPAN in
    c.writer_before.ensures
    ∙ sym (writer_front g.row.PAGES inputs.image inputs.log c.args.target from c.args.position recorded.before
    ∙ ap (λ (o : Option ℕ). later from o (last_writer c.args.target (trace_at g.row.PAGES inputs.image inputs.log from)))
    (sym (c.writer.ensures _ recorded.recorded) ∙ c.in_default.is))
