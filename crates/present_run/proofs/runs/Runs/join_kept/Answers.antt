use Rattle.std.proofs.Common.{List, ap, arith, refl, ◌∙◌}
use Rattle.span_fact.specs.Span.{Span}
use Rattle.checkpoints.specs.Kept.{row_at}
use Rattle.present_run.specs.Reuse.{stay, use_one}
use Rattle.present_run.proofs.Near.{is_there}
use Rattle.present_run.proofs.runs.Runs.join_kept.Goals as goal

pub promote-requires : goal.promote-requires
promote-requires g c = (omega arith, (c.requires.of.records, (is_there _ _ _ _ _ c.requires.serves, c.requires.few)))

pub returns-clause-turns : goal.returns-clause-turns
returns-clause-turns g c =
    let valid = c.args.self.now.records.kept.valid in
    use_one (row_at c.args.self.now.records.kept.rows valid) _ (stay _ refl) c.args.place c.requires.serves
    (ap (λ (rows : List (List Span)). row_at rows valid) c.join_first.ensures.rows ∙ (c.in_ok-promote.ensures {u = tt}).row)

pub returns-in_err-promote-clause-turns : goal.returns-in_err-promote-clause-turns
returns-in_err-promote-clause-turns g c =
    stay _ (ap (λ (rows : List (List Span)). row_at rows c.args.self.now.records.kept.valid) (c.in_err-promote.ensures {u = tt}).same)
