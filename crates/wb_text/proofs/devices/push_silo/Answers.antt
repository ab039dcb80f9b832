-- The pieces of the line, one after the other.
use Rattle.std.proofs.Common.{append_assoc}
use Rattle.wb_text.specs.Devices.{silo_text}
use Rattle.wb_text.proofs.devices.push_silo.Goals as goal

pub returns-clause-items : goal.returns-clause-items
unfolding silo_text
returns-clause-items c =
    rw (
      c.push_text-2.ensures.items,
      c.push_waiting.ensures.items,
      c.push_decimal.ensures.items,
      c.push_text.ensures.items,
    )
    (simp append_assoc)
