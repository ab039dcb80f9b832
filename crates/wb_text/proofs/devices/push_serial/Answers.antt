-- The pieces of the line, one after the other.
use Rattle.std.proofs.Common.{append_assoc}
use Rattle.wb_text.specs.Devices.{serial_text}
use Rattle.wb_text.proofs.devices.push_serial.Goals as goal

pub returns-clause-items : goal.returns-clause-items
unfolding serial_text
returns-clause-items c =
    rw (
      c.push_text-3.ensures.items,
      c.push_decimal-2.ensures.items,
      c.from-2.ensures,
      c.push_text-2.ensures.items,
      c.push_decimal.ensures.items,
      c.from.ensures,
      c.push_text.ensures.items,
      c.push_field-4.ensures.items,
      c.push_field-3.ensures.items,
      c.push_field-2.ensures.items,
      c.push_field.ensures.items,
    )
    (simp append_assoc)
