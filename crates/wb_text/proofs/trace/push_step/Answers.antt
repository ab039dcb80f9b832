-- The pieces of the line, one after the other.
use Rattle.std.proofs.Common.{append_assoc}
use Rattle.wb_text.specs.Trace.{step_text}
use Rattle.wb_text.proofs.trace.push_step.Goals as goal

pub returns-clause-items : goal.returns-clause-items
unfolding step_text
returns-clause-items c =
    rw (
      c.push_text-2.ensures.items,
      c.push_exception.ensures.items,
      c.push_shut_down.ensures.items,
      c.push_sent.ensures.items,
      c.push_access.ensures.items,
      c.push_hi_lo.ensures.items,
      c.push_write.ensures.items,
      c.push_fetched.ensures.items,
      c.push_word.ensures.items,
      c.push_text.ensures.items,
      c.push_decimal.ensures.items,
    )
    (simp append_assoc)
