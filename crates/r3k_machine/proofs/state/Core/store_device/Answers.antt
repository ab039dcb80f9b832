use Rattle.std.proofs.Common.{refl}
use Rattle.r3k_machine.proofs.state.Core.store_device.Goals as goal

pub returns-in-Device-clause-core : goal.returns-in-Device-clause-core
returns-in-Device-clause-core c = rw (← c.in-Device.ensures, ← c.self.view_is, c.store.ensures.state) refl

pub returns-in-Device-clause-sent : goal.returns-in-Device-clause-sent
returns-in-Device-clause-sent c = rw (← c.in-Device.ensures, ← c.self.view_is) c.store.ensures.sent
