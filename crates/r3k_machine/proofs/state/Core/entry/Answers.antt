use Rattle.r3k_machine.proofs.state.Core.entry.Goals as goal

pub returns : goal.returns
returns c = rw (← c.self.view_is) c.read.ensures
