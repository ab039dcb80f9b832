use Rattle.std.proofs.Common.{refl}
use Rattle.cop0.proofs.exception.Coprocessor.number.Goals as goal

pub returns-in-Cp2-clause-value : goal.returns-in-Cp2-clause-value
returns-in-Cp2-clause-value c = rw c.in-Cp2.is refl
