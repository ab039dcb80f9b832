-- One more digit.
use Rattle.std.proofs.Common.{◌≡◌, ◌<◌, ◌^◌, min, arith, sym, ◌∙◌, ap, subst, get_or, take, length}
use Rattle.std.specs.Char.{digit_value, is_digit}
use Rattle.std.specs.Str.Parse.{digits_value}
use Rattle.std.proofs.lemmas.List.Folds.{list_all_more}
use Rattle.std.proofs.lemmas.Bool.{lt-ltb}
use Rattle.std.proofs.lemmas.Int.Digits.{digits_value_more}
use Rattle.asm_line.proofs.Digits.{min-more}
use Rattle.asm_line.proofs.number.digits.Goals as goal

pub loop-digit-preserved : goal.loop-digit-preserved
loop-digit-preserved c =
    let digits = c.args.digits.now in
    let base = c.args.base in
    let i = c.loop-digit.digit-index in
    let inside : i < length digits = omega arith in
    let small : digit_value (get_or digits i 0) < base =
    subst (λ byte. digit_value byte < base) c.from.ensures c.in_ok-value.ensures.value.0 in
    let value : c.in_ok-value.value ≡ digit_value (get_or digits i 0) = c.in_ok-value.ensures.value.1 ∙ ap digit_value c.from.ensures in
    let front = digits_value base (take i digits) in
    record {
      digits = rw (list_all_more (λ digit. is_digit digit base) digits i 0 inside, c.loop-digit.invariant.digits) (lt-ltb _ _ small);
      number =
          c.min-number.ensures
          ∙ rw (c.from-in-loop-digit.ensures, c.from-in-loop-digit-2.ensures, value, c.loop-digit.invariant.number) (min-more front base (digit_value (get_or digits i 0)) (2 ^ 32) (omega (arith, c.requires.least)))
          ∙ ap (λ n. min n (2 ^ 32)) (sym (digits_value_more base digits i inside));
    }
