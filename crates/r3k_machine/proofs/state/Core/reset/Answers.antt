-- Each part is that of reset.
use Rattle.std.proofs.Common.{refl}
use Rattle.r3k_machine.proofs.state.Core.reset.Goals as goal

pub returns : goal.returns
returns c = rw (
  c.at.ensures,
  c.new.ensures,
  c.new-2.ensures,
  c.in_ok-new.ensures,
  c.new-4.ensures,
  c.from.ensures,
  c.from-2.ensures,
  c.byte_time.ensures.value,
  c.clock_start.ensures.value,
  c.unit.ensures.value,
) refl
