-- The pieces of the line, one after the other.
use Rattle.std.proofs.Common.{append_assoc}
use Rattle.wb_text.specs.Devices.{clock_text}
use Rattle.wb_text.proofs.devices.push_clock.Goals as goal

pub returns-clause-items : goal.returns-clause-items
unfolding clock_text
returns-clause-items c =
    rw (
      c.push_text-6.ensures.items,
      c.push_registers.ensures.items,
      c.push_text-5.ensures.items,
      c.push_ticks-2.ensures.items,
      c.push_text-4.ensures.items,
      c.push_ticks.ensures.items,
      c.push_text-3.ensures.items,
      c.push_text-2.ensures.items,
      c.flag.ensures,
      c.push_text.ensures.items,
    )
    (simp append_assoc)
