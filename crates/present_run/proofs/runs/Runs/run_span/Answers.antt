use Rattle.std.proofs.Common.{ℕ, ◌+◌, ◌*◌, ◌∷◌, ◌-◌, List, Some, slice_get, take, refl, sym, ap, ◌∙◌, arith}
use Rattle.r3k_machine.specs.Run.{state_at}
use Rattle.span_fact.specs.Span.{Span, end_of}
use Rattle.checkpoints.specs.Kept.{first_at, row_at}
use Rattle.present_run.specs.Reuse.{put_one, span_of, stay}
use Rattle.present_run.proofs.Near.{is_joined}
use Rattle.present_run.proofs.Spans.{ends}
use Rattle.present_run.proofs.runs.Runs.run_span.Goals as goal

pub join-requires : goal.join-requires
join-requires g c =
    let pages = g.row.PAGES in
    let span = g.row.SPAN in
    let image = c.args.inputs.now.image in
    let log = c.args.inputs.now.log in
    let kept = c.keep.new.self.kept in
    let made = (c.in_ok-fact.ensures {u = tt}).made in
    let same = c.valid.ensures ∙ sym c.keep.ensures.valid in (
      omega arith,
      (
        omega arith,
        (
          c.keep.ensures.of,
          (
            is_joined pages span image log kept.valid (first_at kept.rows kept.valid)
                (ap (first_at kept.rows) c.keep.ensures.valid
                ∙ (ap (λ (row : List Span). slice_get row 0) (c.in_ok-keep.ensures {u = tt}).row
                ∙ (ap (λ (s : Span). Some s) made ∙ ap (λ (n : ℕ). Some (span_of pages span image log n)) same))),
            (
              (c.in_ok-end.ensures {u = tt}).cases
                  ∙ (c.end.ensures
                  ∙ (ap (λ (s : Span). end_of pages span s) made
                  ∙ (ends pages span image log c.valid.result ∙ ap (λ (n : ℕ). state_at pages image log ((n + 1) * span)) same))),
              omega (arith, c.keep.ensures.valid, c.requires.few),
            ),
          ),
        ),
      ),
    )

pub returns-in_err-fact-clause-turns : goal.returns-in_err-fact-clause-turns
returns-in_err-fact-clause-turns g c = stay _ refl

pub returns-in_err-end-clause-turns : goal.returns-in_err-end-clause-turns
returns-in_err-end-clause-turns g c = stay _ refl

pub returns-in_err-keep-clause-turns : goal.returns-in_err-keep-clause-turns
returns-in_err-keep-clause-turns g c = stay _ (c.in_err-keep.ensures {u = tt}).same

pub returns-clause-others : goal.returns-clause-others
returns-clause-others g c = λ i other. ap (λ (rows : List (List Span)). row_at rows i) c.join.ensures.rows ∙ c.keep.ensures.others i other

pub returns-clause-turns : goal.returns-clause-turns
returns-clause-turns g c =
    let old = c.args.self.now.records.kept in
    put_one (row_at old.rows old.valid) _ (stay _ refl) c.requires.lacks
    (ap (λ (rows : List (List Span)). row_at rows old.valid) c.join.ensures.rows
    ∙ ((c.in_ok-keep.ensures {u = tt}).row
    ∙ (ap (λ (s : Span). s ∷ take (old.most - 1) (row_at old.rows old.valid)) (c.in_ok-fact.ensures {u = tt}).made
    ∙ ap (λ (n : ℕ). span_of g.row.PAGES g.row.SPAN c.args.inputs.now.image c.args.inputs.now.log n ∷ take (old.most - 1) (row_at old.rows old.valid)) c.valid.ensures)))
