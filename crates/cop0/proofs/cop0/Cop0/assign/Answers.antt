use Rattle.cop0.proofs.cop0.Cop0.assign.Goals as goal

pub returns : goal.returns
returns c = cc
