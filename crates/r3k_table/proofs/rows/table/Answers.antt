use Rattle.std.proofs.Common.{refl}
use Rattle.r3k_table.proofs.rows.table.Goals as goal

pub returns : goal.returns
returns c = refl
