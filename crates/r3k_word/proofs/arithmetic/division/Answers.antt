use Rattle.std.proofs.Common.{refl}
use Rattle.std.proofs.lemmas.Bool.{eq-eqb}
use Rattle.r3k_word.proofs.arithmetic.division.Goals as goal

pub returns-then-b-eq0 : goal.returns-then-b-eq0
returns-then-b-eq0 c = rw (eq-eqb c.args.b 0 c.if-b-eq0.true) refl
