use Rattle.r3k_machine.proofs.Destinations.{named_slot, other_registers, same_hi, same_lo}
use Rattle.r3k_machine.proofs.laws.destination_laws.Goals as goal

pub returns-clause-registers : goal.returns-clause-registers
returns-clause-registers c = other_registers

pub returns-clause-hi : goal.returns-clause-hi
returns-clause-hi c = same_hi

pub returns-clause-lo : goal.returns-clause-lo
returns-clause-lo c = same_lo

pub returns-clause-slot : goal.returns-clause-slot
returns-clause-slot c = named_slot
