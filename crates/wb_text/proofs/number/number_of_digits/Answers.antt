-- One more digit.
use Rattle.std.proofs.Common.{◌≡◌, ◌<◌, arith, sym, ◌∙◌, ap, subst, get_or, take, length}
use Rattle.std.specs.Char.{digit_value, is_digit}
use Rattle.std.specs.Str.Parse.{digits_value}
use Rattle.std.proofs.lemmas.List.Folds.{list_all_more}
use Rattle.std.proofs.lemmas.Bool.{lt-ltb}
use Rattle.std.proofs.lemmas.Int.Digits.{digits_value_more}
use Rattle.wb_text.proofs.Digits.{in_word, in_word-more}
use Rattle.wb_text.proofs.number.number_of_digits.Goals as goal

pub loop-digit-preserved : goal.loop-digit-preserved
loop-digit-preserved c =
    let digits = c.args.digits.now in
    let i = c.loop-digit.digit-index in
    let inside : i < length digits = omega arith in
    let small : digit_value (get_or digits i 0) < c.args.base =
    subst (λ byte. digit_value byte < c.args.base) c.from.ensures c.in-Some.ensures.value.0 in
    let value : c.in-Some.value ≡ digit_value (get_or digits i 0) = c.in-Some.ensures.value.1 ∙ ap digit_value c.from.ensures in
    let more = rw (c.from-in-loop-digit.ensures, c.from-in-loop-digit-2.ensures, value) at c.with_digit-number.ensures in
    record {
      digits = rw (list_all_more (λ digit. is_digit digit c.args.base) digits i 0 inside, c.loop-digit.invariant.digits) (lt-ltb _ _ small);
      number =
          in_word-more (digits_value c.args.base (take i digits)) c.args.base (digit_value (get_or digits i 0)) c.loop-digit.number
          c.with_digit-number.result c.requires.least c.loop-digit.invariant.number more
          ∙ ap in_word (sym (digits_value_more c.args.base digits i inside));
    }
