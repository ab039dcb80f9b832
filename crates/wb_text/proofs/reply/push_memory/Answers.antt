-- The pieces of the line, one after the other.
use Rattle.std.proofs.Common.{append_assoc}
use Rattle.wb_text.specs.Reply.{memory_text}
use Rattle.wb_text.proofs.reply.push_memory.Goals as goal
use Rattle.wb_text.proofs.reply.push_memory.Goals.{then-instruction, else-instruction}

pub returns-clause-items : goal.returns-clause-items
unfolding memory_text
returns-clause-items c =
    elim c.if-instruction.branch [
      | then-instruction w ↦ rw (c.push_text-2.ensures.items, w.text-is, w.push_text-then-instruction.ensures.items, w.as_bytes.ensures.value, w.deref.ensures.0, w.text.ensures, w.push_text.ensures.items, c.push_field.ensures.items, c.push_word.ensures.items, w.if-instruction.true) (simp append_assoc)
      | else-instruction w ↦ rw (c.push_text-2.ensures.items, w.text-is, c.push_field.ensures.items, c.push_word.ensures.items, w.if-instruction.false) (simp append_assoc)
    ]
