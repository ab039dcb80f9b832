-- The count is the next one, within a unit and at its end.
use Rattle.std.proofs.Common.{arith}
use Rattle.mc146818.proofs.Count.{next_tick, next_unit}
use Rattle.mc146818.proofs.divider.Divider.advance.Goals as goal

pub returns-then-self-clause-count : goal.returns-then-self-clause-count
returns-then-self-clause-count c =
    let d = c.self.inside in
    rw (← c.self.view_is) (next_tick d.units d.unit d.ticks c.self.invariant.0 c.if-self.true)

pub returns-else-self-eq-UNITS-clause-count : goal.returns-else-self-eq-UNITS-clause-count
returns-else-self-eq-UNITS-clause-count c =
    let d = c.self.inside in
    rw (← c.self.view_is) (next_unit d.units d.unit d.ticks (omega arith) c.self.invariant.1 c.if-self.false)
