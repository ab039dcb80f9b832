use Rattle.std.proofs.Common.{◌≡◌, Contains, List, MatchOption, None, Some, slice_get, sym, ap, subst, ◌∙◌}
use Rattle.std.specs.Option.{option_map}
use Rattle.checkpoints.specs.Kept.{Kept, row_at}
use Rattle.checkpoints.specs.Rows.{Places, Linked, records_of}
use Rattle.checkpoints.proofs.Rows.{got, span_at}
use Rattle.checkpoints.proofs.kept.Kept.fact.Goals as goal

pub returns-clause-fact : goal.returns-clause-fact
returns-clause-fact g c =
    let i = c.args.index in
    let p = c.args.place in
    ap (λ (k : Kept). slice_get (row_at k.rows i) p) (sym c.self.view_is)
    ∙ (span_at c.self.inside.rows.items i p
    ∙ (ap (λ (places : List Places). option_map (λ (r : Linked). r.span) (slice_get (row_at (records_of places) i) p)) (sym c.deref.ensures.value)
    ∙ (ap (option_map (λ (r : Linked). r.span)) (c.in_ok-fact.ensures {u = tt})
    ∙ ap (λ (r : Linked). Some r.span) (sym c.branch.view_is))))

pub returns-clause-index : goal.returns-clause-index
returns-clause-index g c =
    ap (λ (r : Linked). r.span.index) c.branch.view_is
    ∙ c.self.invariant.0.numbers c.args.index c.in_ok-fact.field-0.now
    (subst (λ (places : List Places). Contains (row_at (records_of places) c.args.index) c.in_ok-fact.field-0.now) c.deref.ensures.value (got _ c.args.place _ (c.in_ok-fact.ensures {u = tt})))

pub returns-in_err-fact-clause-fact : goal.returns-in_err-fact-clause-fact
returns-in_err-fact-clause-fact g c =
    let i = c.args.index in
    let p = c.args.place in
    let none : slice_get (row_at c.args.self.now.rows i) p ≡ None =
    ap (λ (k : Kept). slice_get (row_at k.rows i) p) (sym c.self.view_is)
    ∙ (span_at c.self.inside.rows.items i p
    ∙ (ap (λ (places : List Places). option_map (λ (r : Linked). r.span) (slice_get (row_at (records_of places) i) p)) (sym c.deref.ensures.value)
    ∙ ap (option_map (λ (r : Linked). r.span)) (c.in_err-fact.ensures {u = tt})))
    in
    subst (λ o. MatchOption o (slice_get (row_at c.args.self.now.rows i) p ≡ None) (λ fact. slice_get (row_at c.args.self.now.rows i) p ≡ Some fact.now)) (sym c.from_residual.ensures) none
