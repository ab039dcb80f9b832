-- The pieces of the line, one after the other.
use Rattle.std.proofs.Common.{append_assoc}
use Rattle.wb_text.specs.Reply.{state_text}
use Rattle.wb_text.proofs.reply.push_state.Goals as goal

pub returns-clause-items : goal.returns-clause-items
unfolding state_text
returns-clause-items c =
    rw (
      c.push_text-4.ensures.items,
      c.push_load.ensures.items,
      c.push_text-3.ensures.items,
      c.push_text-2.ensures.items,
      c.flag.ensures,
      c.push_text.ensures.items,
      c.push_field-4.ensures.items,
      c.push_field-3.ensures.items,
      c.push_field-2.ensures.items,
      c.push_field.ensures.items,
    )
    (simp append_assoc)
