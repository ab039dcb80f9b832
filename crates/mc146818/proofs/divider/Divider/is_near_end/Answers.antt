-- The whole units decide.
use Rattle.mc146818.proofs.Count.{near_by_units}
use Rattle.mc146818.proofs.divider.Divider.is_near_end.Goals as goal

pub returns : goal.returns
returns c =
    let d = c.self.inside in
    rw (← c.self.view_is) (near_by_units d.units d.unit d.ticks c.self.invariant.1)
