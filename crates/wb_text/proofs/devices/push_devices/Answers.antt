-- The lines, one after the other.
use Rattle.std.proofs.Common.{append_assoc}
use Rattle.wb_text.specs.Devices.{devices_text}
use Rattle.wb_text.proofs.devices.push_devices.Goals as goal

pub returns : goal.returns
unfolding devices_text
returns c =
    rw (
      c.push_board.ensures,
      c.push_clock.ensures.items,
      c.push_silo.ensures.items,
      c.deref.ensures.0,
      c.push_lines.ensures.items,
      c.push_serial.ensures.items,
    )
    (simp append_assoc)
