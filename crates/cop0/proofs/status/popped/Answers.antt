use Rattle.cop0.proofs.status.popped.Goals as goal

pub returns : goal.returns
returns c = cc
