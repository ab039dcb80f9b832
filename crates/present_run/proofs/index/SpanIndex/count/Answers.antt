use Rattle.std.proofs.Common.{arith, ap, ◌∙◌}
use Rattle.console_index.specs.Counts.{total}
use Rattle.present_run.specs.Index.{Index}
use Rattle.present_run.proofs.Totals.{totals}
use Rattle.present_run.proofs.index.SpanIndex.count.Goals as goal

pub returns : goal.returns
returns c = λ pages span spans agrees.
    let index : Index = c.args.self.now in
    c.count.ensures
    ∙ (ap (λ (x : Index). total x.consoles c.args.line c.args.count) c.self.view_is
    ∙ totals pages span index spans c.args.line c.args.count (omega arith) (λ i below. agrees i))
