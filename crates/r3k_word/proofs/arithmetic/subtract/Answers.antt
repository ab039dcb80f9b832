use Rattle.std.proofs.Common.{arith}
use Rattle.r3k_word.proofs.arithmetic.subtract.Goals as goal

pub returns : goal.returns
returns c = omega arith
