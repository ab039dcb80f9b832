use Rattle.mc146818.proofs.Second.{within, second, held}
use Rattle.mc146818.proofs.laws.clock_laws.Goals as goal

pub returns-clause-within : goal.returns-clause-within
returns-clause-within c = within

pub returns-clause-second : goal.returns-clause-second
returns-clause-second c = second

pub returns-clause-held : goal.returns-clause-held
returns-clause-held c = held
