use Rattle.std.proofs.Common.{subst}
use Rattle.r3k_machine.specs.Core.{Core, HoldsZero}
use Rattle.r3k_machine.proofs.state.Core.operands.Goals as goal

pub returns-clause-operands : goal.returns-clause-operands
returns-clause-operands c = rw (← c.self.view_is) cc

pub returns-clause-zero : goal.returns-clause-zero
returns-clause-zero c = subst (λ (core : Core). HoldsZero core.registers) c.self.view_is c.self.invariant
