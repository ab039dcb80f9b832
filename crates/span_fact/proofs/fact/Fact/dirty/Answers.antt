use Rattle.r3k_pages.proofs.Ascending.{pages_set}
use Rattle.span_fact.proofs.fact.Fact.dirty.Goals as goal

pub returns-clause-set : goal.returns-clause-set
returns-clause-set g c = rw (c.deref.ensures.value, c.self.invariant.stored) (pages_set g.row.PAGES _)
