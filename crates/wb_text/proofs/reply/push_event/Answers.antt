-- The pieces of the line, one after the other.
use Rattle.std.proofs.Common.{append_assoc}
use Rattle.wb_text.specs.Reply.{event_text}
use Rattle.wb_text.proofs.reply.push_event.Goals as goal

pub returns-clause-items : goal.returns-clause-items
unfolding event_text
returns-clause-items c =
    rw (
      c.push_text-5.ensures.items,
      c.push_text-4.ensures.items,
      c.kind_text.ensures.text,
      c.push_byte.ensures.items,
      c.push_text-3.ensures.items,
      c.push_decimal-3.ensures.items,
      c.from.ensures,
      c.push_text-2.ensures.items,
      c.push_decimal-2.ensures.items,
      c.push_text.ensures.items,
      c.push_decimal.ensures.items,
      ← c.event.view_is,
    )
    (simp append_assoc)
