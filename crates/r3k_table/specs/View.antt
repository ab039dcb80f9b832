-- A row of the code as the definition has it.
use Rattle.r3k_table.specs.declared.row.Row.{Row}
use Rattle.r3k_table.specs.Table.{Instruction}

abbrev pub view : Row → Instruction
view r = record { mask = r.mask; value = r.value; name = r.name.now; shape = r.shape }
