-- The digits before the last, and the last.
use Rattle.std.proofs.Common.{arith, refl, lit<, ap, length}
use Rattle.std.proofs.lemmas.Fmt.{decimal_digit, decimal_step}
use Rattle.wb_text.proofs.Decimal.{front_len}
use Rattle.wb_text.proofs.text.+decimal_digits.Goals as goal

pub returns-then-number-lt10 : goal.returns-then-number-lt10
returns-then-number-lt10 t c = rw (c.push.ensures.items, c.new-digits.ensures, decimal_digit c.args.number (omega arith)) refl

pub push-requires-2 : goal.push-requires-2
push-requires-2 t c = (lit< tt, omega (arith, ap length c.decimal_digits-digits.ensures, front_len c.args.number (omega arith)))

pub returns : goal.returns
returns t c =
    rw (c.push-2.ensures.items, c.decimal_digits-digits.ensures, decimal_step c.args.number (omega arith) (omega arith)) refl
