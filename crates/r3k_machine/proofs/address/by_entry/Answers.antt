use Rattle.std.proofs.Common.{refl}
use Rattle.r3k_machine.proofs.address.by_entry.Goals as goal

pub returns-then-lo-eq0 : goal.returns-then-lo-eq0
returns-then-lo-eq0 c = rw (c.miss.ensures, c.if-lo-eq0.true) refl
