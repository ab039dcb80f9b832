use Rattle.r3k_exec.proofs.branches.return_address.Goals as goal

pub returns : goal.returns
returns c = cc
