use Rattle.std.proofs.Common.{refl}
use Rattle.r3k_machine.proofs.address.Use.is_let_through.Goals as goal

pub returns-in-Store : goal.returns-in-Store
returns-in-Store c = rw c.in-Store.is refl
