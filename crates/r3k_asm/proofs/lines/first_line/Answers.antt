-- The line, and what follows its line feed.
use Rattle.std.proofs.Common.{◌≡◌, ◌<◌, length, arith, sym, ap, subst, ◌∙◌}
use Rattle.std.proofs.lemmas.Bool.{eqb-true, eq-eqb, false≢true}
use Rattle.std.proofs.lemmas.List.{length-drop}
use Rattle.r3k_asm.proofs.FirstLine.{last_line, next_line, rest-le, rest_is}
use Rattle.r3k_asm.proofs.lines.first_line.Goals as goal

pub returns-then-is_empty-clause-lines : goal.returns-then-is_empty-clause-lines
returns-then-is_empty-clause-lines c =
    rw (c.span.ensures.front, c.span.ensures.rest)
    (last_line c.args.text.now c.requires (sym (ap length c.span.ensures.rest) ∙ eqb-true _ _ (sym c.if-is_empty.ensures)))

pub returns-clause-lines : goal.returns-clause-lines
returns-clause-lines c =
    let rest = c.span.result.1.now in
    let none = λ (h : length rest ≡ 0). false≢true (c.if-is_empty.ensures ∙ eq-eqb _ _ h) in
    let some : 0 < length rest = omega (arith, none) in
    rw (c.strip.ensures, rest_is c.args.text.now rest c.span.ensures.rest, c.span.ensures.front)
    (next_line c.args.text.now (subst (λ r. 0 < length r) c.span.ensures.rest some))

pub returns-clause-shorter : goal.returns-clause-shorter
returns-clause-shorter c =
    let rest = c.span.result.1.now in
    let none = λ (h : length rest ≡ 0). false≢true (c.if-is_empty.ensures ∙ eq-eqb _ _ h) in
    let some : 0 < length rest = omega (arith, none) in
    omega (arith, ap length (rest_is c.args.text.now rest c.span.ensures.rest), length-drop 1 rest, ap length c.span.ensures.rest, rest-le c.args.text.now, ap (λ r. length r) c.span.ensures.rest, some)
