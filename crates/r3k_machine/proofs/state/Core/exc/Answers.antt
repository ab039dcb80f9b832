use Rattle.std.proofs.Common.{refl}
use Rattle.r3k_machine.proofs.state.Core.exc.Goals as goal

pub returns : goal.returns
returns c = rw (c.pc.ensures, c.delay.ensures, c.code.ensures, c.bad_address.ensures, c.is_mapped.ensures, c.is_refill.ensures) refl
