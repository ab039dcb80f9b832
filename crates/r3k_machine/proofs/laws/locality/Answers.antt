use Rattle.r3k_machine.proofs.Carried.{one_state}
use Rattle.r3k_machine.proofs.Elsewhere.{run_elsewhere, step_elsewhere}
use Rattle.r3k_machine.proofs.Within.{pages_within, store_touched, store_within}
use Rattle.r3k_machine.proofs.laws.locality.Goals as goal

pub returns-clause-pages : goal.returns-clause-pages
returns-clause-pages c = pages_within

pub returns-clause-stored : goal.returns-clause-stored
returns-clause-stored c = store_within

pub returns-clause-stored_touched : goal.returns-clause-stored_touched
returns-clause-stored_touched c = store_touched

pub returns-clause-report : goal.returns-clause-report
returns-clause-report c = λ pages events set s t other w apart. (step_elsewhere pages events set s t other w apart).0

pub returns-clause-next : goal.returns-clause-next
returns-clause-next c = λ pages events set s t other w apart. (step_elsewhere pages events set s t other w apart).1

pub returns-clause-trace : goal.returns-clause-trace
returns-clause-trace c = λ pages log time set s t other n w apart. (run_elsewhere pages log time set s t other n w apart).0

pub returns-clause-run : goal.returns-clause-run
returns-clause-run c = λ pages log time set s t other n w apart. (run_elsewhere pages log time set s t other n w apart).1

pub returns-clause-one : goal.returns-clause-one
returns-clause-one c = one_state
