use Rattle.std.proofs.Common.{refl}
use Rattle.r3k_word.proofs.bits.merge.Goals as goal

pub returns : goal.returns
returns c = refl
