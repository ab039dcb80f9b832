use Rattle.r3k_exec.proofs.transfers.address.Goals as goal

pub returns : goal.returns
returns c = cc
