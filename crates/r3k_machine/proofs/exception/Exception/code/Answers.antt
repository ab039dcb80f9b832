use Rattle.std.proofs.Common.{refl}
use Rattle.r3k_machine.proofs.exception.Exception.code.Goals as goal

pub returns-in-CoprocessorUnusable : goal.returns-in-CoprocessorUnusable
returns-in-CoprocessorUnusable c = rw c.in-CoprocessorUnusable.is refl
