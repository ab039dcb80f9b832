-- The low bits of the units decide, where no ticks are beyond.
use Rattle.mc146818.proofs.Count.{multiple_by_bits, no_multiple}
use Rattle.mc146818.proofs.divider.Divider.is_multiple.Goals as goal

pub returns-then-self-eq0 : goal.returns-then-self-eq0
returns-then-self-eq0 c =
    let d = c.self.inside in
    rw (← c.self.view_is) (multiple_by_bits d.units d.unit d.ticks c.args.power c.if-self-eq0.true c.self.invariant.1 c.requires)

pub returns-else-self-eq0 : goal.returns-else-self-eq0
returns-else-self-eq0 c =
    let d = c.self.inside in
    rw (← c.self.view_is) (no_multiple d.units d.unit d.ticks c.args.power c.if-self-eq0.false c.self.invariant.1)
