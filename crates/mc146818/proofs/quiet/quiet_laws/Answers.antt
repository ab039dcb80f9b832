use Rattle.mc146818.proofs.Passed.{passes, line_stays, time_stays, flags_stay, greatest, next_is, in_parts, stays_quiet}
use Rattle.mc146818.proofs.quiet.quiet_laws.Goals as goal

pub returns-clause-passes : goal.returns-clause-passes
returns-clause-passes c = passes

pub returns-clause-line : goal.returns-clause-line
returns-clause-line c = line_stays

pub returns-clause-time : goal.returns-clause-time
returns-clause-time c = time_stays

pub returns-clause-flags : goal.returns-clause-flags
returns-clause-flags c = flags_stay

pub returns-clause-greatest : goal.returns-clause-greatest
returns-clause-greatest c = greatest

pub returns-clause-next : goal.returns-clause-next
returns-clause-next c = next_is

pub returns-clause-in_parts : goal.returns-clause-in_parts
returns-clause-in_parts c = in_parts

pub returns-clause-stays_quiet : goal.returns-clause-stays_quiet
returns-clause-stays_quiet c = stays_quiet
