use Rattle.std.proofs.Common.{refl}
use Rattle.r3k_word.proofs.layout.word_count.Goals as goal

pub returns : goal.returns
returns c = refl
