use Rattle.std.proofs.Common.{refl}
use Rattle.r3k_machine.specs.Step.{sampled}
use Rattle.r3k_machine.proofs.state.Core.sample.Goals as goal

pub returns : goal.returns
unfolding sampled
returns c = rw (← c.self.view_is, c.sample.ensures, c.lines-lines.ensures) refl
