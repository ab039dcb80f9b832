-- The pieces of the line, one after the other.
use Rattle.std.proofs.Common.{append_assoc}
use Rattle.wb_text.specs.Reply.{control_text}
use Rattle.wb_text.proofs.reply.push_control.Goals as goal

pub returns : goal.returns
unfolding control_text
returns c =
    rw (
      c.push_text.ensures.items,
      c.push_field-10.ensures.items,
      c.push_field-9.ensures.items,
      c.push_field-8.ensures.items,
      c.push_field-7.ensures.items,
      c.push_field-6.ensures.items,
      c.push_field-5.ensures.items,
      c.push_field-4.ensures.items,
      c.push_field-3.ensures.items,
      c.push_field-2.ensures.items,
      c.push_field.ensures.items,
    )
    (simp append_assoc)
