use Rattle.std.proofs.Common.{arith}
use Rattle.present_run.proofs.Counting.{few_in_span}
use Rattle.present_run.proofs.index.SpanIndex.take_in.Goals as goal

pub counts_of-requires : goal.counts_of-requires
counts_of-requires g c = omega (arith, few_in_span g.row.PAGES g.row.SPAN c.args.fact.now c.sent.result.now c.sent.ensures, c.requires.span)

pub replace-requires-clause-counts : goal.replace-requires-clause-counts
replace-requires-clause-counts g c = λ line d within.
    let few = few_in_span g.row.PAGES g.row.SPAN c.args.fact.now c.sent.result.now c.sent.ensures in
    omega (arith, few, c.counts_of.ensures.few line d within, c.requires.span)
