use Rattle.std.proofs.Common.{arith}
use Rattle.r3k_exec.proofs.access.right.Goals as goal

pub returns-in-2 : goal.returns-in-2
returns-in-2 c = rw c.in-2.is (omega (arith, c.ranges.kept))
