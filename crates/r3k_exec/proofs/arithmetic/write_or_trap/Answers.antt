use Rattle.r3k_exec.proofs.arithmetic.write_or_trap.Goals as goal

pub returns-in-None : goal.returns-in-None
returns-in-None c = rw c.in-None.is cc
