use Rattle.std.proofs.Common.{refl}
use Rattle.r3k_table.proofs.operand.operands.Goals as goal

pub returns-in-D : goal.returns-in-D
returns-in-D c = rw c.in-D.is refl
