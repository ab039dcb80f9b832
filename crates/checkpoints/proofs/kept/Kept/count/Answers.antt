use Rattle.std.proofs.Common.{List, length, sym, ap, ◌∙◌, arith}
use Rattle.std.proofs.lemmas.List.{length-map}
use Rattle.span_fact.specs.Span.{Span}
use Rattle.checkpoints.specs.Kept.{Kept, row_at}
use Rattle.checkpoints.specs.Rows.{Places, Linked, records_of, rows_of}
use Rattle.checkpoints.proofs.Rows.{item, row_is, row_of}
use Rattle.checkpoints.proofs.kept.Kept.count.Goals as goal

pub returns-in-Some : goal.returns-in-Some
returns-in-Some g c =
    let i = c.args.index in
    let rows = c.deref.result.now in
    let row = c.in-Some.row.now in
    let look = (c.in-Some.ensures {u = tt}).lookup in
    let there = item rows i row (omega (arith, look.0)) look.1 in
    c.len.ensures
    ∙ (ap (λ (row : List Linked). length row) (sym (row_is rows i row there))
    ∙ (sym (length-map (row_at (records_of rows) i) (λ r. r.span))
    ∙ (ap (λ (row : List Span). length row) (sym (row_of rows i))
    ∙ (ap (λ (places : List Places). length (row_at (rows_of places) i)) c.deref.ensures.value
    ∙ ap (λ (k : Kept). length (row_at k.rows i)) c.self.view_is))))
