-- The first operand, and then the others.
use Rattle.r3k_table.specs.declared.operand.Operand.TheVariants.{Rs}
use Rattle.r3k_disasm.proofs.Operands.{none, more}
use Rattle.r3k_disasm.proofs.operand.+push_operands.Goals as goal

pub returns-in_default : goal.returns-in_default
returns-in_default t c = none c.args.text.now.bytes c.args.separator.now c.args.address c.args.insn.now c.args.operands.now c.in_default.len_below

pub returns-in-len1-up : goal.returns-in-len1-up
returns-in-len1-up t c =
    rw (c.push_operands.ensures, c.push_operand.ensures.bytes, c.push_str.ensures.bytes)
    (more c.args.text.now.bytes c.args.separator.now c.args.address c.args.insn.now c.args.operands.now Rs c.in-len1-up.len_at_least)
