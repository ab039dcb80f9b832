use Rattle.std.proofs.Common.{◌≡◌, take, true}
use Rattle.std.specs.List.{list_all}
use Rattle.std.specs.Char.{is_digit}
use Rattle.std.specs.Str.Parse.{digits_value}
use Rattle.wb_text.proofs.Digits.{in_word}
use Rattle.wb_text.proofs.number.number_of_digits.Given as goal

abbrev pub invariant-loop-digit : goal.invariant-loop-digit
invariant-loop-digit l = record {
  digits : list_all (λ digit. is_digit digit l.base) (take l.digit-index l.digits) ≡ true;
  number : l.number ≡ in_word (digits_value l.base (take l.digit-index l.digits));
}
