use Rattle.std.proofs.Common.{refl}
use Rattle.r3k_machine.proofs.state.Core.where_is.Goals as goal

pub returns-in-Ok : goal.returns-in-Ok
returns-in-Ok c = rw (← c.in-Ok.ensures, c.if-physical.true) refl

pub returns-in-Ok-2 : goal.returns-in-Ok-2
returns-in-Ok-2 c = rw (← c.in-Ok.ensures, c.if-physical.false) refl
