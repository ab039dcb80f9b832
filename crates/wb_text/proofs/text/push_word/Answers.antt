-- Each digit is the one of its place.
use Rattle.std.proofs.Common.{refl}
use Rattle.std.proofs.Math.Nat.{div-one}
use Rattle.wb_text.specs.Text.{word_text}
use Rattle.wb_text.proofs.text.push_word.Goals as goal

pub returns-clause-items : goal.returns-clause-items
unfolding word_text
returns-clause-items c =
    rw (
      c.push_text.ensures.items,
      c.hexadecimal_digit.ensures,
      c.hexadecimal_digit-2.ensures,
      c.hexadecimal_digit-3.ensures,
      c.hexadecimal_digit-4.ensures,
      c.hexadecimal_digit-5.ensures,
      c.hexadecimal_digit-6.ensures,
      c.hexadecimal_digit-7.ensures,
      c.hexadecimal_digit-8.ensures,
      div-one c.args.word,
    ) refl
