use Rattle.std.proofs.Common.{◌≡◌, length, min, ap, ◌∙◌, arith}
use Rattle.std.proofs.lemmas.List.{length-map}
use Rattle.console_index.specs.Counts.{total}
use Rattle.console_index.specs.Totals.{counts_of}
use Rattle.console_index.specs.declared.span.Span.{Span}
use Rattle.console_index.proofs.Sums.{total_end}
use Rattle.console_index.proofs.index.ConsoleIndex.count.Goals as goal

pub returns : goal.returns
returns c =
    let spans = c.self.inside.spans.items in
    let end : c.min-end.result ≡ min (length (counts_of spans)) c.args.before = omega (arith, length-map spans (λ (span : Span). span.counts)) in
    c.total_below.ensures
    ∙ (ap (λ spans. total (counts_of spans) c.args.line c.min-end.result) c.deref.ensures.value
    ∙ (total_end (counts_of spans) c.args.line c.args.before c.min-end.result end ∙ ap (λ counts. total counts c.args.line c.args.before) c.self.view_is))
