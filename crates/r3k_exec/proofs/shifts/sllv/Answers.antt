use Rattle.r3k_exec.proofs.shifts.sllv.Goals as goal

pub returns : goal.returns
returns c = cc
