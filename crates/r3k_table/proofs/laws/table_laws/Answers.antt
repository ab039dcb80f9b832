use Rattle.std.proofs.Common.{refl, ap, ◌∙◌, Some, arith}
use Rattle.r3k_table.specs.Table.{instructions}
use Rattle.r3k_table.proofs.Apart.{row_from, found}
use Rattle.r3k_table.proofs.laws.table_laws.Goals as goal

pub returns-clause-apart : goal.returns-clause-apart
returns-clause-apart c = refl

pub returns-clause-row : goal.returns-clause-row
returns-clause-row c = λ word i h. row_from instructions refl word 0 i h ∙ ap Some (omega arith)

pub returns-clause-found : goal.returns-clause-found
returns-clause-found c = λ word. found instructions word
