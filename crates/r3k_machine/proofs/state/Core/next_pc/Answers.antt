use Rattle.r3k_machine.proofs.state.Core.next_pc.Goals as goal

pub returns : goal.returns
returns c = rw (← c.self.view_is) c.next_pc.ensures
