use Rattle.std.proofs.Common.{◌≡◌, None, map, take}
use Rattle.std.specs.Prelude.{find}
use Rattle.std.specs.Str.{bytes_eq}
use Rattle.r3k_table.specs.View.{view}
use Rattle.asm_line.proofs.statement.row.Given as goal

abbrev pub invariant-loop-row : goal.invariant-loop-row
invariant-loop-row l = find (λ r. bytes_eq r.name l.name) (map view (take l.row-index l.row-items)) ≡ None
