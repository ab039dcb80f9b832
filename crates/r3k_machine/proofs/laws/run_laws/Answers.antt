use Rattle.r3k_machine.proofs.Splits.{run_split, trace_split, trace_count, console_split, senders_split, senders_count, writer_split, run_own, trace_own}
use Rattle.r3k_machine.proofs.laws.run_laws.Goals as goal

pub returns-clause-run : goal.returns-clause-run
returns-clause-run c = run_split

pub returns-clause-trace : goal.returns-clause-trace
returns-clause-trace c = trace_split

pub returns-clause-count : goal.returns-clause-count
returns-clause-count c = trace_count

pub returns-clause-console : goal.returns-clause-console
returns-clause-console c = console_split

pub returns-clause-senders : goal.returns-clause-senders
returns-clause-senders c = senders_split

pub returns-clause-sent : goal.returns-clause-sent
returns-clause-sent c = senders_count

pub returns-clause-writer : goal.returns-clause-writer
returns-clause-writer c = writer_split

pub returns-clause-own_times : goal.returns-clause-own_times
returns-clause-own_times c = run_own

pub returns-clause-own_times_of_trace : goal.returns-clause-own_times_of_trace
returns-clause-own_times_of_trace c = trace_own
