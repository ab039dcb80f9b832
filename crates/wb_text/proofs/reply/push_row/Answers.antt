-- The pieces of the line, one after the other.
use Rattle.std.proofs.Common.{append_assoc}
use Rattle.wb_text.specs.Reply.{row_text}
use Rattle.wb_text.proofs.reply.push_row.Goals as goal

pub returns-clause-items : goal.returns-clause-items
unfolding row_text
returns-clause-items c =
    rw (
      c.push_text-6.ensures.items,
      c.push_word-4.ensures.items,
      c.push_text-5.ensures.items,
      c.push_word-3.ensures.items,
      c.push_text-4.ensures.items,
      c.push_word-2.ensures.items,
      c.push_text-3.ensures.items,
      c.push_word.ensures.items,
      c.push_text-2.ensures.items,
      c.push_decimal.ensures.items,
      c.push_text.ensures.items,
    )
    (simp append_assoc)
