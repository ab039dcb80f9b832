-- The digits before the last, and the last.
use Rattle.std.proofs.Common.{arith, refl}
use Rattle.r3k_disasm.proofs.Decimal.{front_room, one_digit, last_digit}
use Rattle.r3k_disasm.proofs.number.+push_decimal.Goals as goal

pub returns-then-number-lt10-clause-bytes : goal.returns-then-number-lt10-clause-bytes
returns-then-number-lt10-clause-bytes t c = rw (c.push_digit.ensures.bytes, one_digit c.args.number (omega arith)) refl

pub push_digit-requires-2-clause-room : goal.push_digit-requires-2-clause-room
push_digit-requires-2-clause-room t c =
    omega (arith, front_room c.args.text.now.bytes c.push_decimal.new.text.bytes c.args.number (omega arith) c.push_decimal.ensures.bytes)

pub returns-clause-bytes : goal.returns-clause-bytes
returns-clause-bytes t c =
    rw (c.push_digit-2.ensures.bytes, c.push_decimal.ensures.bytes) (last_digit c.args.text.now.bytes c.args.number (omega arith) (omega arith))

pub returns-clause-room : goal.returns-clause-room
returns-clause-room t c =
    omega (arith, c.push_digit-2.ensures.len, front_room c.args.text.now.bytes c.push_decimal.new.text.bytes c.args.number (omega arith) c.push_decimal.ensures.bytes)
