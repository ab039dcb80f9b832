-- The first operand, and then the others.
use Rattle.std.proofs.Common.{rules, sym, ap, ◌∙◌}
use Rattle.std.proofs.lemmas.Bool.{eqb-true, eq-eqb, false≢true}
use Rattle.r3k_table.specs.declared.operand.Operand.TheVariants.{Rs}
use Rattle.asm_line.specs.Operand.{operand_at}
use Rattle.asm_line.proofs.OperandList.{no_operand, bad_operand, last_operand, more_operands}
use Rattle.asm_line.proofs.operand.+operands_at.Goals as goal

pub returns-then-is_blank : goal.returns-then-is_blank
returns-then-is_blank t c = let e = no_operand c.args.operands.now c.args.text.now c.in_default.len_below in rw e (search rules)

pub returns-else-is_blank : goal.returns-else-is_blank
returns-else-is_blank t c = let e = no_operand c.args.operands.now c.args.text.now c.in_default.len_below in rw e (search rules)

pub returns-in_err-operand : goal.returns-in_err-operand
returns-in_err-operand t c =
    rw c.from_residual.ensures (bad_operand c.args.operands.now c.args.text.now Rs c.in-len1-up.len_at_least (c.in_err-operand.ensures ∙ ap (operand_at _) c.skip_blanks.ensures))

pub returns-then-is_blank-2 : goal.returns-then-is_blank-2
returns-then-is_blank-2 t c =
    let e = last_operand c.args.operands.now c.args.text.now Rs (c.in_ok-operand.operand, c.in_ok-operand.rest.now) c.in-len1-up.len_at_least (eqb-true _ _ (sym c.if-is_empty.ensures))
    (c.in_ok-operand.ensures ∙ ap (operand_at _) c.skip_blanks.ensures) in
    rw (← e, ← c.if-is_blank-2.ensures) (search rules)

pub returns-else-is_blank-2 : goal.returns-else-is_blank-2
returns-else-is_blank-2 t c =
    let e = last_operand c.args.operands.now c.args.text.now Rs (c.in_ok-operand.operand, c.in_ok-operand.rest.now) c.in-len1-up.len_at_least (eqb-true _ _ (sym c.if-is_empty.ensures))
    (c.in_ok-operand.ensures ∙ ap (operand_at _) c.skip_blanks.ensures) in
    rw (← e, ← c.if-is_blank-2.ensures) (search rules)

pub returns-in_err-after : goal.returns-in_err-after
returns-in_err-after t c =
    let e = more_operands c.args.operands.now c.args.text.now Rs (c.in_ok-operand.operand, c.in_ok-operand.rest.now) c.in-len1-up.len_at_least
    (λ h. false≢true (c.if-is_empty.ensures ∙ eq-eqb _ _ h)) (c.in_ok-operand.ensures ∙ ap (operand_at _) c.skip_blanks.ensures) in
    rw (c.from_residual-in_err-after.ensures, ← e, ← c.in_err-after.ensures) (search rules)

pub returns-in_err-more : goal.returns-in_err-more
returns-in_err-more t c =
    let e = more_operands c.args.operands.now c.args.text.now Rs (c.in_ok-operand.operand, c.in_ok-operand.rest.now) c.in-len1-up.len_at_least
    (λ h. false≢true (c.if-is_empty.ensures ∙ eq-eqb _ _ h)) (c.in_ok-operand.ensures ∙ ap (operand_at _) c.skip_blanks.ensures) in
    rw (c.from_residual-in_err-more.ensures, ← e, ← c.in_ok-after.ensures, ← c.in_err-more.ensures) (search rules)

pub returns : goal.returns
returns t c =
    let e = more_operands c.args.operands.now c.args.text.now Rs (c.in_ok-operand.operand, c.in_ok-operand.rest.now) c.in-len1-up.len_at_least
    (λ h. false≢true (c.if-is_empty.ensures ∙ eq-eqb _ _ h)) (c.in_ok-operand.ensures ∙ ap (operand_at _) c.skip_blanks.ensures) in
    rw (← e, ← c.in_ok-after.ensures, ← c.in_ok-more.ensures, c.joined.ensures) (search rules)
