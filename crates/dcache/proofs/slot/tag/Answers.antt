use Rattle.std.proofs.Common.{refl}
use Rattle.dcache.proofs.slot.tag.Goals as goal

pub returns : goal.returns
returns c = refl
