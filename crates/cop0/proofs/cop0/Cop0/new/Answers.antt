use Rattle.std.proofs.Common.{refl}
use Rattle.cop0.proofs.cop0.Cop0.new.Goals as goal

pub returns : goal.returns
returns c = refl
