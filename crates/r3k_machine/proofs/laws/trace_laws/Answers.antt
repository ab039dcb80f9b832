use Rattle.r3k_machine.proofs.Destinations.{traced_exception, traced_hi_lo, traced_report, traced_write}
use Rattle.r3k_machine.proofs.laws.trace_laws.Goals as goal

pub returns-clause-report : goal.returns-clause-report
returns-clause-report c = traced_report

pub returns-clause-write : goal.returns-clause-write
returns-clause-write c = traced_write

pub returns-clause-hi_lo : goal.returns-clause-hi_lo
returns-clause-hi_lo c = traced_hi_lo

pub returns-clause-exception : goal.returns-clause-exception
returns-clause-exception c = traced_exception
