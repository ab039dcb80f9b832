use Rattle.r3k_exec.proofs.branches.bgezal.Goals as goal

pub returns : goal.returns
returns c = cc
