-- Each part is the other's.
use Rattle.r3k_machine.proofs.state.Core.assign.Goals as goal

pub returns : goal.returns
returns c = rw (← c.other.view_is) cc
