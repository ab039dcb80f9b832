use Rattle.std.proofs.Common.{refl}
use Rattle.r3k_machine.proofs.state.Core.load_isolated.Goals as goal

pub returns-clause-word : goal.returns-clause-word
returns-clause-word c = rw (← c.self.view_is, ← c.is_swapped-second.ensures) c.load-word.ensures.word

pub returns-clause-core : goal.returns-clause-core
returns-clause-core c = rw (c.set_cm.ensures, c.load-word.ensures.hit, c.is_swapped-second.ensures, ← c.self.view_is) refl
