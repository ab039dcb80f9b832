use Rattle.std.proofs.Common.{refl, ap, Some}
use Rattle.r3k_machine.proofs.state.Core.load_device.Goals as goal

pub returns-in-Device-clause-word : goal.returns-in-Device-clause-word
returns-in-Device-clause-word c = rw (← c.in-Device.ensures, ← c.self.view_is) (ap Some c.load.ensures.word)

pub returns-in-Device-clause-core : goal.returns-in-Device-clause-core
returns-in-Device-clause-core c = rw (← c.in-Device.ensures, ← c.self.view_is, c.load.ensures.state) refl
