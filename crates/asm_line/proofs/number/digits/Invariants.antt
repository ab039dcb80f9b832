use Rattle.std.proofs.Common.{◌≡◌, ◌^◌, min, take, true}
use Rattle.std.specs.List.{list_all}
use Rattle.std.specs.Char.{is_digit}
use Rattle.std.specs.Str.Parse.{digits_value}
use Rattle.asm_line.proofs.number.digits.Given as goal

abbrev pub invariant-loop-digit : goal.invariant-loop-digit
invariant-loop-digit l = record {
  digits : list_all (λ digit. is_digit digit l.base) (take l.digit-index l.digits) ≡ true;
  number : l.number ≡ min (digits_value l.base (take l.digit-index l.digits)) (2 ^ 32);
}
