use Rattle.std.proofs.Common.{refl}
use Rattle.r3k_exec.proofs.control.tlbwi.Goals as goal

pub returns : goal.returns
returns c = refl
