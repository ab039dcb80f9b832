use Rattle.std.proofs.Common.{◌≡◌, ℕ, ◌*◌, List, Some, slice_get, refl, sym, ap, ◌∙◌, arith}
use Rattle.std.proofs.lemmas.Option.{slice_get_within}
use Rattle.r3k_machine.specs.Run.{state_at}
use Rattle.span_fact.specs.Span.{Span}
use Rattle.checkpoints.specs.Kept.{first_at, row_at}
use Rattle.present_run.proofs.Rejoining.{over_kept, over_next}
use Rattle.present_run.proofs.Near.{first_promoted, promoted_zero}
use Rattle.present_run.proofs.records.SpanRecords.promote.Goals as goal

pub returns-then-place-eq0-clause-row : goal.returns-then-place-eq0-clause-row
returns-then-place-eq0-clause-row g c = sym (promoted_zero c.args.place (row_at c.args.self.now.kept.rows c.args.self.now.kept.valid) c.if-place-eq0.true c.requires.there)

pub take_in-requires : goal.take_in-requires
take_in-requires g c =
    (omega arith, (omega (arith, (c.in-Some.ensures {u = tt}).index, c.valid-index.ensures, c.requires.few), c.requires.of.sizes.most_span))

pub promote-requires : goal.promote-requires
promote-requires g c =
    (omega arith, slice_get_within (row_at c.args.self.now.kept.rows c.valid-index.result) c.args.place c.in-Some.fact.now (c.in-Some.ensures {u = tt}).fact)

pub returns-in_err-take_in-clause-of : goal.returns-in_err-take_in-clause-of
returns-in_err-take_in-clause-of g c =
    let now = c.args.self.now in
    over_kept c.args.inputs.now.image c.args.inputs.now.log now now.kept c.take_in.new.self (λ i. refl) refl refl
    (λ i. (c.in_err-take_in.ensures {u = tt}).same i (first_at now.kept.rows i) (c.requires.of.agrees i)) c.requires.of

pub returns-clause-of : goal.returns-clause-of
returns-clause-of g c =
    let image = c.args.inputs.now.image in
    let log = c.args.inputs.now.log in
    let old = c.args.self.now.kept in
    let valid = old.valid in
    let n = c.valid-index.result in
    let n_is : n ≡ valid = c.valid-index.ensures in
    let now = c.promote.new.self in
    let fact = c.in-Some.fact.now in
    let fact_is : slice_get (row_at old.rows n) c.args.place ≡ Some fact = (c.in-Some.ensures {u = tt}).fact in
    let rows : (i : ℕ) → ¬ (i ≡ valid) → row_at now.rows i ≡ row_at old.rows i = λ i other. c.promote.ensures.others i (λ same. other (same ∙ n_is)) in
    let others : (i : ℕ) → ¬ (i ≡ valid) → first_at now.rows i ≡ first_at old.rows i = λ i other. ap (λ (row : List Span). slice_get row 0) (rows i other) in
    let here : first_at now.rows valid ≡ Some fact =
    ap (first_at now.rows) (sym n_is) ∙ (ap (λ (row : List Span). slice_get row 0) c.promote.ensures.row ∙ (first_promoted c.args.place (row_at old.rows n) fact fact_is)) in
    over_next image log c.args.self.now now c.take_in.new.self c.cut.new.self fact others c.promote.ensures.valid c.promote.ensures.ends here ((c.in-Some.ensures {u = tt}).index ∙ n_is)
    (c.in_ok-take_in.ensures {u = tt}).there (c.in_ok-take_in.ensures {u = tt}).others
    (c.cut.ensures.known g.row.SPAN old.rows now.rows (λ n. state_at g.row.PAGES image log (n * g.row.SPAN)) (λ n. state_at g.row.PAGES image log (n * g.row.SPAN))
    (λ i below. rows i (λ same. let e : ⊥ = omega (arith, below, same, n_is) in e)) (λ i some before. refl) c.requires.of.known)
    c.requires.of
