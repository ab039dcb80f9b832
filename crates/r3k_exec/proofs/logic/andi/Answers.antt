use Rattle.r3k_exec.proofs.logic.andi.Goals as goal

pub returns : goal.returns
returns c = cc
