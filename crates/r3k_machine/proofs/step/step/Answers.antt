use Rattle.std.proofs.Common.{ap}
use Rattle.r3k_machine.specs.State.{State}
use Rattle.r3k_machine.specs.Step.{fallen, outcome_of_step}
use Rattle.r3k_machine.proofs.step.step.Goals as goal

pub returns-clause-state : goal.returns-clause-state
unfolding outcome_of_step
returns-clause-state g c =
    let ran = (rw (c.sample.ensures, c.tick.ensures, c.arrive.ensures) at c.interrupt_or_run-done.ensures.state) in
    rw c.fall.ensures (ap {B = State} (λ (s : State). record { core = fallen s.core; words = s.words }) ran)

pub returns-clause-report : goal.returns-clause-report
unfolding outcome_of_step
returns-clause-report g c = rw (c.sample.ensures, c.tick.ensures, c.arrive.ensures) at c.interrupt_or_run-done.ensures.report
