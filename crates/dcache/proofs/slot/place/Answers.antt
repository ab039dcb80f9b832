use Rattle.std.proofs.Common.{refl}
use Rattle.dcache.proofs.slot.place.Goals as goal

pub returns-clause-value : goal.returns-clause-value
returns-clause-value c = refl
