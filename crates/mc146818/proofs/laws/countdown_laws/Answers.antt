use Rattle.mc146818.proofs.Countdown.{period_ends, period_goes_on, second_ends, second_goes_on}
use Rattle.mc146818.proofs.laws.countdown_laws.Goals as goal

pub returns-clause-second_goes_on : goal.returns-clause-second_goes_on
returns-clause-second_goes_on c = second_goes_on

pub returns-clause-second_ends : goal.returns-clause-second_ends
returns-clause-second_ends c = second_ends

pub returns-clause-period_goes_on : goal.returns-clause-period_goes_on
returns-clause-period_goes_on c = period_goes_on

pub returns-clause-period_ends : goal.returns-clause-period_ends
returns-clause-period_ends c = period_ends
