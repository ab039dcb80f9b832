use Rattle.checkpoints.proofs.Near.{near_cores, near_end, near_steps}
use Rattle.checkpoints.proofs.laws.near_laws.Goals as goal

pub returns-clause-steps : goal.returns-clause-steps
returns-clause-steps c = near_steps

pub returns-clause-end : goal.returns-clause-end
returns-clause-end c = near_end

pub returns-clause-cores : goal.returns-clause-cores
returns-clause-cores c = near_cores
