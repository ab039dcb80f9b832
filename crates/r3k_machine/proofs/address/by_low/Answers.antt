use Rattle.std.proofs.Common.{refl}
use Rattle.r3k_machine.proofs.address.by_low.Goals as goal

pub returns-in-Some : goal.returns-in-Some
returns-in-Some c = rw c.in-Some.is cc

pub returns-in-None : goal.returns-in-None
returns-in-None c = rw (c.in-None.is, c.miss.ensures) refl
