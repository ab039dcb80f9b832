use Rattle.std.proofs.Common.{length}
use Rattle.asm_line.proofs.operand.+operands_at.Given as goal

abbrev pub decreases-operands_at : goal.decreases-operands_at
decreases-operands_at l = length l.operands.now
