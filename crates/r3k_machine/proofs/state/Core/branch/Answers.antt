use Rattle.std.proofs.Common.{refl}
use Rattle.r3k_machine.proofs.state.Core.branch.Goals as goal

pub returns : goal.returns
returns c = rw (c.branch-self.ensures, ← c.self.view_is) refl
