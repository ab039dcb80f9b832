use Rattle.std.proofs.Common.{◌≡◌, ℕ, ◌+◌, ◌*◌, IfSome, IsSomeAnd, length, sym, ap, subst, ◌∙◌, arith}
use Rattle.r3k_machine.specs.State.{State}
use Rattle.r3k_machine.specs.Run.{state_at}
use Rattle.span_fact.specs.Span.{Span}
use Rattle.checkpoints.specs.Kept.{Kept, NearlyApplies, first_at}
use Rattle.present_run.specs.Reuse.{span_of}
use Rattle.present_run.specs.Ends.{IsJoined}
use Rattle.present_run.proofs.Rejoining.{over_known}
use Rattle.present_run.proofs.Known.{end_known, known_before, own_events}
use Rattle.std.proofs.lemmas.Result.{IfOk-weaker}
use Rattle.present_run.proofs.records.SpanRecords.carry_over.Goals as goal

pub carry_over-requires : goal.carry_over-requires
carry_over-requires g c =
    let pages = g.row.PAGES in
    let span = g.row.SPAN in
    let now = c.args.self.now in
    let kept = now.kept in
    let start = sym c.requires.start in (
      omega arith,
      (
        omega arith,
        (
          omega arith,
          (
            subst (λ (s : State). IsSomeAnd (first_at kept.rows kept.valid) (λ r. NearlyApplies pages span r s r.events)) start
                (own_events pages span (first_at kept.rows kept.valid) _ _ c.requires.serves),
            (
              omega (arith, c.requires.few),
              known_before span kept.rows (λ n. state_at pages c.args.inputs.now.image c.args.inputs.now.log (n * span)) now.frontier kept.valid c.args.start.now start c.requires.of.known,
            ),
          ),
        ),
      ),
    )

pub returns-clause-there : goal.returns-clause-there
returns-clause-there g c =
    let pages = g.row.PAGES in
    let span = g.row.SPAN in
    let kept = c.args.self.now.kept in
    let spans : ℕ → Span = span_of pages span c.args.inputs.now.image c.args.inputs.now.log in
    subst (λ (k : Kept). IsJoined pages span k.valid (first_at k.rows k.valid) (spans k.valid)) (sym c.carry_over.ensures.kept)
    (record {
      near = c.requires.serves;
      number = c.carry_over.ensures.number;
      long = subst (λ (s : State). IfSome (first_at kept.rows kept.valid) (λ r. length s.words ≡ length r.start.words)) c.requires.start c.carry_over.ensures.long;
    })

pub returns-clause-end : goal.returns-clause-end
returns-clause-end g c =
    let image = c.args.inputs.now.image in
    let log = c.args.inputs.now.log in
    let kept = c.args.self.now.kept in
    IfOk-weaker c.carry_over.result _ _
    (λ end is. end_known g.row.PAGES g.row.SPAN image log kept.valid c.args.start.now end.value (first_at kept.rows kept.valid) c.requires.start c.requires.serves c.carry_over.ensures.number is
    ∙ ap (λ (k : Kept). state_at g.row.PAGES image log ((k.valid + 1) * g.row.SPAN)) (sym c.carry_over.ensures.kept))
    c.carry_over.ensures.end

pub returns-clause-of : goal.returns-clause-of
returns-clause-of g c =
    let image = c.args.inputs.now.image in
    let log = c.args.inputs.now.log in
    let kept = c.args.self.now.kept in
    over_known image log c.args.self.now c.carry_over.new.kept c.carry_over.new.self c.carry_over.ensures.kept
    (c.carry_over.ensures.known (λ n. state_at g.row.PAGES image log (n * g.row.SPAN))
    (IfOk-weaker c.carry_over.result _ _
    (λ end is. sym (end_known g.row.PAGES g.row.SPAN image log kept.valid c.args.start.now end.value (first_at kept.rows kept.valid) c.requires.start c.requires.serves c.carry_over.ensures.number is))
    c.carry_over.ensures.end)) c.requires.of
