use Rattle.r3k_exec.proofs.control.mfc0.Goals as goal

pub returns : goal.returns
returns c = cc
