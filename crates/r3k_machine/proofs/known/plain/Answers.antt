use Rattle.std.proofs.Common.{◌∙◌, ap, sym, arith}
use Rattle.r3k_table.specs.Mnemonics.{number_of}
use Rattle.r3k_machine.proofs.Plain.{itself, of_shift, of_sum, of_union}
use Rattle.r3k_machine.proofs.known.plain.Goals as goal

pub returns-then-sa-ne0 : goal.returns-then-sa-ne0
returns-then-sa-ne0 c = itself c.args.insn

pub returns-then-number-ne0 : goal.returns-then-number-ne0
returns-then-number-ne0 c = itself c.args.insn

pub returns-then-number-ne0-2 : goal.returns-then-number-ne0-2
returns-then-number-ne0-2 c = itself c.args.insn

pub returns-in_default : goal.returns-in_default
returns-in_default c = itself c.args.insn

pub returns-else-sa-ne0 : goal.returns-else-sa-ne0
returns-else-sa-ne0 c =
    rw (c.addiu.ensures, c.rd.ensures, c.rt.ensures) (of_shift c.args.insn (sym (ap number_of c.in-Sll.is) ∙ c.mnemonic.ensures) (omega (arith, c.sa.ensures.value, c.if-sa-ne0.false)))

pub returns-else-number-ne0 : goal.returns-else-number-ne0
returns-else-number-ne0 c =
    rw (c.addiu-in-Addu.ensures, c.rd-in-Addu.ensures, c.rs.ensures)
    (of_sum c.args.insn (sym (ap number_of c.in-Addu.is) ∙ c.mnemonic.ensures) (omega (arith, c.rt-in-Addu.ensures, c.number.ensures.value, c.if-number-ne0.false)))

pub returns-else-number-ne0-2 : goal.returns-else-number-ne0-2
returns-else-number-ne0-2 c =
    rw (c.addiu-in-Or.ensures, c.rd-in-Or.ensures, c.rs-in-Or.ensures)
    (of_union c.args.insn (sym (ap number_of c.in-Or.is) ∙ c.mnemonic.ensures) (omega (arith, c.rt-in-Or.ensures, c.number-in-Or.ensures.value, c.if-number-ne0-2.false)))
