-- The registers that an instruction names as its destination (Kane and Heinrich, appendix A; their numbers here are own), as one number:
-- 0 for none, 1 to 31, 32 for HI, 33 for LO, and 34 for HI and LO. The value of a load or of a move from coprocessor 0 reaches its
-- register after the next instruction, unless that writes the register too; the instruction itself is the one that counts.
use Rattle.std.specs.Prelude.{ℕ}
use Rattle.r3k_exec.specs.declared.operands.Effect.{Effect}
use Rattle.r3k_exec.specs.declared.operands.Effect.TheVariants.{Write, WriteHi, WriteLo, WriteHiLo, JumpAndLink, Load, MoveFromControl}

abbrev pub destination_of : Effect → ℕ
destination_of (Write number value) = number
destination_of (WriteHi value) = 32
destination_of (WriteLo value) = 33
destination_of (WriteHiLo hi lo) = 34
destination_of (JumpAndLink target number value) = number
destination_of (Load kind number address) = number
destination_of (MoveFromControl number control) = number
destination_of effect = 0
