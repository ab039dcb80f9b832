use Rattle.std.proofs.Common.{rules, ap, ◌∙◌}
use Rattle.std.specs.Prelude.{FitsSigned, int_div, int_rem}
use Rattle.std.specs.Int.{w32, cast_unsigned}
use Rattle.std.proofs.Math.Path.{ap₂}
use Rattle.std.proofs.lemmas.Int.{quot_is, rem_is}
use Rattle.r3k_word.proofs.Division.{divides}
use Rattle.r3k_word.proofs.arithmetic.signed_division.Goals as goal

pub returns : goal.returns
returns c =
    let a = c.cast_signed-dividend.result in
    let b = c.cast_signed-divisor.result in
    let fa : FitsSigned w32 a = search rules in
    let fb : FitsSigned w32 b = search rules in
    let fq : FitsSigned w32 (int_div a b) = search rules in
    let q = ap (cast_unsigned w32) (quot_is w32 a b fa fb fq) in
    let r = ap (cast_unsigned w32) (rem_is w32 a b fa fb) in
    divides c.args.a c.args.b c.cast_unsigned-2.result c.cast_unsigned.result c.if-b-eq0.false c.else-a-eq2147483648.either
    (c.cast_unsigned-2.ensures ∙ (q ∙ ap₂ (λ x y. cast_unsigned w32 (int_div x y)) c.cast_signed-dividend.ensures c.cast_signed-divisor.ensures))
    (c.cast_unsigned.ensures ∙ (r ∙ ap₂ (λ x y. cast_unsigned w32 (int_rem x y)) c.cast_signed-dividend.ensures c.cast_signed-divisor.ensures))
