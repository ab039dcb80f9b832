-- One mask tests the three flags and their enables.
use Rattle.mc146818.proofs.Flags.{requested}
use Rattle.mc146818.proofs.clock.Clock.interrupts.Goals as goal

pub returns : goal.returns
returns c = rw (← c.self.view_is) (requested c.self.inside.flags c.self.inside.b)
