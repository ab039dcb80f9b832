use Rattle.dz_serial.proofs.Passed.{passes, line_stays, greatest, next_is, in_parts, passed_in_parts, stays_quiet}
use Rattle.dz_serial.proofs.quiet.quiet_laws.Goals as goal

pub returns-clause-passes : goal.returns-clause-passes
returns-clause-passes c = passes

pub returns-clause-line : goal.returns-clause-line
returns-clause-line c = line_stays

pub returns-clause-greatest : goal.returns-clause-greatest
returns-clause-greatest c = greatest

pub returns-clause-next : goal.returns-clause-next
returns-clause-next c = next_is

pub returns-clause-in_parts : goal.returns-clause-in_parts
returns-clause-in_parts c = in_parts

pub returns-clause-passed_in_parts : goal.returns-clause-passed_in_parts
returns-clause-passed_in_parts c = passed_in_parts

pub returns-clause-stays_quiet : goal.returns-clause-stays_quiet
returns-clause-stays_quiet c = stays_quiet
