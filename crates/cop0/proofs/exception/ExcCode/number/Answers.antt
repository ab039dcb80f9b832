use Rattle.std.proofs.Common.{refl}
use Rattle.cop0.proofs.exception.ExcCode.number.Goals as goal

pub returns-in-Overflow-clause-code : goal.returns-in-Overflow-clause-code
returns-in-Overflow-clause-code c = rw c.in-Overflow.is refl
