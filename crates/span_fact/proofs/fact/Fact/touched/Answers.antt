use Rattle.r3k_pages.proofs.Ascending.{pages_set}
use Rattle.span_fact.proofs.fact.Fact.touched.Goals as goal

pub returns-clause-set : goal.returns-clause-set
returns-clause-set g c = rw (c.deref.ensures.value, c.self.invariant.seen) (pages_set g.row.PAGES _)
