use Rattle.std.proofs.Common.{refl}
use Rattle.std.proofs.lemmas.Grind.{and_numeral}
use Rattle.r3k_exec.proofs.access.left.Goals as goal

pub returns-in-1 : goal.returns-in-1
returns-in-1 c = rw (c.in-1.is, and_numeral c.args.kept 65534 refl) refl
