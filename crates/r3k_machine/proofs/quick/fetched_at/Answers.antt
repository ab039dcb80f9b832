use Rattle.r3k_machine.proofs.quick.fetched_at.Goals as goal

pub returns-in-Some-clause-means : goal.returns-in-Some-clause-means
returns-in-Some-clause-means c = (c.in-Some.ensures.reached.cacheable, c.in-Some.ensures.reached.plain.means)

pub returns-clause-means : goal.returns-clause-means
returns-clause-means c = (c.in_ok-physical.physical.cacheable, rw c.reached.ensures.core at c.in_ok-physical.ensures.answer)
