-- Each digit is the one of its place.
use Rattle.std.proofs.Common.{refl}
use Rattle.std.proofs.Math.Nat.{div-one}
use Rattle.wb_text.specs.Text.{byte_text}
use Rattle.wb_text.proofs.text.push_byte.Goals as goal

pub returns-clause-items : goal.returns-clause-items
unfolding byte_text
returns-clause-items c =
    rw (
      c.push_text.ensures.items,
      c.hexadecimal_digit.ensures,
      c.hexadecimal_digit-2.ensures,
      c.from.ensures,
      c.from-2.ensures,
      div-one c.args.byte,
    ) refl
