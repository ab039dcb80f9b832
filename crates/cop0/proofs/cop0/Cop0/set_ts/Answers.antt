use Rattle.std.proofs.Common.{refl}
use Rattle.cop0.proofs.cop0.Cop0.set_ts.Goals as goal

pub returns : goal.returns
returns c = rw (← c.self.view_is) refl
