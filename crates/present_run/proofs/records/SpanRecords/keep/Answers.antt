use Rattle.std.proofs.Common.{◌≡◌, ℕ, ◌+◌, ◌*◌, List, Some, slice_get, sym, ap, ◌∙◌, arith}
use Rattle.r3k_machine.specs.State.{State}
use Rattle.r3k_machine.specs.Run.{state_at}
use Rattle.span_fact.specs.Span.{Span, end_of}
use Rattle.checkpoints.specs.Kept.{first_at}
use Rattle.present_run.proofs.Indexed.{agrees_same}
use Rattle.present_run.proofs.Rejoining.{over_kept, over_next}
use Rattle.present_run.proofs.Known.{known_before, known_by}
use Rattle.present_run.proofs.Spans.{ends}
use Rattle.present_run.proofs.records.SpanRecords.keep.Goals as goal

-- the records are as they were
pub returns-in_err-reserve-clause-of : goal.returns-in_err-reserve-clause-of
returns-in_err-reserve-clause-of g c =
    let now = c.args.self.now in
    let firsts : (i : ℕ) → first_at c.reserve.new.self.rows i ≡ first_at now.kept.rows i = λ i. ap (λ (row : List Span). slice_get row 0) (c.reserve.ensures.rows i) in
    over_kept c.args.inputs.now.image c.args.inputs.now.log now c.reserve.new.self now.reports firsts c.reserve.ensures.valid c.reserve.ensures.ends
    (agrees_same g.row.PAGES g.row.SPAN now.reports now.kept.rows c.reserve.new.self.rows firsts c.requires.of.agrees) c.requires.of

pub returns-in_err-take_in-clause-of : goal.returns-in_err-take_in-clause-of
returns-in_err-take_in-clause-of g c =
    let now = c.args.self.now in
    let firsts : (i : ℕ) → first_at c.reserve.new.self.rows i ≡ first_at now.kept.rows i = λ i. ap (λ (row : List Span). slice_get row 0) (c.reserve.ensures.rows i) in
    let agrees = agrees_same g.row.PAGES g.row.SPAN now.reports now.kept.rows c.reserve.new.self.rows firsts c.requires.of.agrees in
    over_kept c.args.inputs.now.image c.args.inputs.now.log now c.reserve.new.self c.take_in.new.self firsts c.reserve.ensures.valid c.reserve.ensures.ends
    (λ i. (c.in_err-take_in.ensures {u = tt}).same i (first_at c.reserve.new.self.rows i) (agrees i)) c.requires.of

pub run_over-requires : goal.run_over-requires
run_over-requires g c =
    let now = c.args.self.now in
    let room = c.reserve.ensures in
    let starts : ℕ → State = λ n. state_at g.row.PAGES c.args.inputs.now.image c.args.inputs.now.log (n * g.row.SPAN) in
    let number : c.args.fact.index ≡ now.kept.valid = ap (λ (s : Span). s.index) c.requires.fact in (
      omega arith,
      (
        omega arith,
        (
          omega arith,
          (
            number ∙ sym room.valid,
            (
              (c.in_ok-reserve.ensures {u = tt}).reserved ∙ ap (λ (n : ℕ). Some n) c.index.ensures,
              (
                omega (arith, number, c.requires.few),
                known_before g.row.SPAN c.reserve.new.self.rows starts now.frontier c.reserve.new.self.valid c.args.fact.start
                    (ap starts room.valid ∙ sym (ap (λ (s : Span). s.start) c.requires.fact))
                    (known_by g.row.SPAN now.kept.rows c.reserve.new.self.rows starts now.frontier (λ i. ap (λ (row : List Span). slice_get row 0) (room.rows i)) c.requires.of.known),
              ),
            ),
          ),
        ),
      ),
    )

pub returns-clause-of : goal.returns-clause-of
returns-clause-of g c =
    let pages = g.row.PAGES in
    let span = g.row.SPAN in
    let image = c.args.inputs.now.image in
    let log = c.args.inputs.now.log in
    let old = c.args.self.now.kept in
    let now = c.run_over.new.kept in
    let room = c.reserve.ensures in
    over_next image log c.args.self.now now c.take_in.new.self c.run_over.new.self c.args.fact
    (λ i other. ap (λ (row : List Span). slice_get row 0) (c.run_over.ensures.others i (λ same. other (same ∙ room.valid)) ∙ room.rows i)) (c.run_over.ensures.valid ∙ room.valid) (c.run_over.ensures.ends ∙ room.ends)
    (ap (first_at now.rows) (sym room.valid) ∙ ap (λ (row : List Span). slice_get row 0) c.run_over.ensures.row) (ap (λ (s : Span). s.index) c.requires.fact)
    (c.in_ok-take_in.ensures {u = tt}).there (c.in_ok-take_in.ensures {u = tt}).others
    (c.run_over.ensures.known (λ n. state_at pages image log (n * span))
    (sym (ap (λ (s : Span). end_of pages span s) c.requires.fact ∙ (ends pages span image log old.valid ∙ ap (λ (n : ℕ). state_at pages image log ((n + 1) * span)) (sym room.valid)))))
    c.requires.of

pub returns-clause-others : goal.returns-clause-others
returns-clause-others g c = λ i other. c.run_over.ensures.others i (λ same. other (same ∙ c.reserve.ensures.valid)) ∙ c.reserve.ensures.rows i
