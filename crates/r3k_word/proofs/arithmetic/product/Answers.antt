use Rattle.std.proofs.Common.{refl}
use Rattle.r3k_word.proofs.arithmetic.product.Goals as goal

pub returns : goal.returns
returns c = rw (c.split.ensures, c.from.ensures, c.from-2.ensures) refl
