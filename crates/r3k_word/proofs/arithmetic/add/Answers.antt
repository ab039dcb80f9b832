use Rattle.std.proofs.Common.{refl}
use Rattle.r3k_word.proofs.arithmetic.add.Goals as goal

pub returns : goal.returns
returns c = refl
