use Rattle.std.proofs.Common.{length}
use Rattle.r3k_disasm.proofs.operand.+push_operands.Given as goal

abbrev pub decreases-push_operands : goal.decreases-push_operands
decreases-push_operands l = length l.operands.now
