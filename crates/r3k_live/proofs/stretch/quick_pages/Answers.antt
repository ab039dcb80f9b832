use Rattle.std.proofs.Common.{arith}
use Rattle.r3k_live.proofs.stretch.quick_pages.Goals as goal

pub steps_over_pages-made-requires : goal.steps_over_pages-made-requires
steps_over_pages-made-requires g c =
    rw c.flow-flow.ensures (omega arith, (omega arith, (c.requires.may, (c.requires.page, (c.requires.opened, c.requires.room)))))

pub returns-clause-goes : goal.returns-clause-goes
returns-clause-goes g c = rw c.set_flow.ensures (rw c.flow-flow.ensures at c.steps_over_pages-made.ensures.goes)

pub returns-clause-code : goal.returns-clause-code
returns-clause-code g c = rw c.set_flow.ensures c.steps_over_pages-made.ensures.code
