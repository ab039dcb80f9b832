-- The first row with the name.
use Rattle.std.proofs.Common.{arith, sym, ap, ◌∙◌}
use Rattle.std.specs.Str.{bytes_eq}
use Rattle.asm_line.proofs.Rows.{none_more, named_at, named_nowhere, rows_len}
use Rattle.asm_line.proofs.statement.row.Goals as goal

pub returns-then-eq : goal.returns-then-eq
returns-then-eq c =
    let len = rows_len c.table-row-items.result.now c.table-row-items.ensures in
    named_at c.table-row-items.result.now c.args.name.now c.loop-row.row-index _ c.table-row-items.ensures (omega (arith, len, c.loop-row-test.true))
    (sym (ap (λ s. bytes_eq s c.args.name.now) c.as_bytes.ensures.value) ∙ sym c.eq.ensures ∙ c.if-eq.true) c.loop-row.invariant

pub loop-row-preserved : goal.loop-row-preserved
loop-row-preserved c =
    let len = rows_len c.table-row-items.result.now c.table-row-items.ensures in
    none_more c.table-row-items.result.now c.args.name.now c.loop-row.row-index _ (omega (arith, len, c.loop-row-test.true))
    (sym (ap (λ s. bytes_eq s c.args.name.now) c.as_bytes.ensures.value) ∙ sym c.eq.ensures ∙ c.if-eq.false) c.loop-row.invariant

pub returns : goal.returns
returns c =
    let len = rows_len c.table-row-items.result.now c.table-row-items.ensures in
    named_nowhere c.table-row-items.result.now c.args.name.now c.loop-row.row-index c.table-row-items.ensures (omega (arith, len, c.loop-row-test.false)) c.loop-row.invariant
