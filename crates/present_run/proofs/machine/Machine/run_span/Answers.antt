use Rattle.std.proofs.Common.{ap, ◌∙◌}
use Rattle.span_fact.specs.Span.{Span, end_of}
use Rattle.present_run.proofs.Spans.{ends, span_is}
use Rattle.present_run.proofs.machine.Machine.run_span.Goals as goal

pub returns-clause-made : goal.returns-clause-made
returns-clause-made g c =
    (c.in_ok-fact.ensures {u = tt}).made
    ∙ span_is g.row.PAGES g.row.SPAN c.args.inputs.now.image c.args.inputs.now.log c.args.index c.args.start.value c.window.result.now c.requires.start c.window.ensures.events

pub returns-clause-of : goal.returns-clause-of
returns-clause-of g c =
    let pages = g.row.PAGES in
    let span = g.row.SPAN in
    let image = c.args.inputs.now.image in
    let log = c.args.inputs.now.log in
    let made = c.in_ok-fact.ensures {u = tt} in record {
      stands =
          made.stands
          ∙ (ap (λ (s : Span). end_of pages span s) (made.made ∙ span_is pages span image log c.args.index c.args.start.value c.window.result.now c.requires.start c.window.ensures.events)
          ∙ ends pages span image log c.args.index);
      recorded = tt;
    }
