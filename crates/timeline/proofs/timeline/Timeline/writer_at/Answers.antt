use Rattle.std.proofs.Common.{Result, Ok, not, sym, ap, ◌∙◌, arith}
use Rattle.std.proofs.Math.Path.{ap₂}
use Rattle.std.specs.FinMap as map
use Rattle.std.specs.Option.{is_some}
use Rattle.r3k_machine.specs.declared.target.Target.TheVariants.{Memory}
use Rattle.r3k_machine.specs.Run.{last_writer, trace_at}
use Rattle.refusal.specs.declared.fault.Fault.{Fault}
use Rattle.r3k_image.specs.Boot.{Boot}
use Rattle.present_run.specs.History.{History}
use Rattle.present_run.specs.TimelineView.{TimelineView}
use Rattle.timeline.specs.Query.{writer_of}
use Rattle.timeline.specs.declared.writer.Writer.{Writer}
use Rattle.timeline.proofs.Plain.{writer_given}
use Rattle.timeline.proofs.timeline.Timeline.writer_at.Goals as goal

pub returns-clause-writer : goal.returns-clause-writer
returns-clause-writer g c =
    let pages = g.row.PAGES in
    let position = c.args.position in
    let address = c.args.address in
    writer_given pages c.args.self.now.history position address (omega arith) (omega arith)
    (ap is_some (sym c.place_of.ensures) ∙ (c.is_none.ensures ∙ ap not c.if-is_none.false))
    ∙ ap (λ (writer : Writer). let r : Result Writer Fault = Ok writer in r) (sym (c.writer_of.ensures
    ∙ ap₂ writer_of
    ((c.in_ok-step.ensures {u = tt}).writer
    ∙ ap (λ (h : History). last_writer (Memory address) (trace_at pages h.image h.log position)) (c.last_writer.ensures.spends.history ∙ ap (λ (h : TimelineView). h.history) c.self.view_is))
    (c.word-set.ensures
    ∙ ap (λ (b : Boot). map.get b.words address) (c.image.ensures ∙ ap (λ (h : TimelineView). h.history.image) c.self.view_is))))
