-- The digits before the last, and the last.
use Rattle.std.proofs.Common.{arith}
use Rattle.r3k_disasm.proofs.Hexadecimal.{no_digits, last_digit}
use Rattle.r3k_disasm.proofs.number.+push_hexadecimal.Goals as goal

pub returns-then-count-eq0-clause-bytes : goal.returns-then-count-eq0-clause-bytes
returns-then-count-eq0-clause-bytes t c = no_digits c.args.text.now.bytes c.args.count c.args.number (omega arith)

pub returns-clause-bytes : goal.returns-clause-bytes
returns-clause-bytes t c =
    rw (c.push_digit.ensures.bytes, c.push_hexadecimal.ensures.bytes) (last_digit c.args.text.now.bytes c.args.count c.args.number (omega arith))
