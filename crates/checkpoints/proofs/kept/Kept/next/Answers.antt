use Rattle.std.proofs.Common.{◌≡◌, ◌+◌, IsSomeAnd, List, Some, slice_get, sym, ap, subst, ◌∙◌}
use Rattle.std.proofs.lemmas.Option.{IfSome_then}
use Rattle.checkpoints.specs.Kept.{Follows, Kept, first_at, row_at}
use Rattle.checkpoints.specs.Rows.{Places, Linked, records_of}
use Rattle.checkpoints.proofs.Rows.{leads}
use Rattle.checkpoints.proofs.kept.Kept.next.Goals as goal

pub returns : goal.returns
returns g c =
    let pages = g.row.PAGES in
    let span = g.row.SPAN in
    let places = c.self.inside.rows.items in
    let i = c.args.index in
    let r = c.in_ok-record_at.field-0.now in
    let there : slice_get (row_at (records_of places) i) 0 ≡ Some r =
    ap (λ (places : List Places). slice_get (row_at (records_of places) i) 0) (sym c.deref.ensures.value) ∙ c.in_ok-record_at.ensures {u = tt} in
    IfSome_then c.place_in.result c.place_in.ensures
    (λ place named.
    subst (λ (k : Kept). Follows pages span (first_at k.rows i) (slice_get (row_at k.rows (i + 1)) place)) c.self.view_is
    (leads pages span places c.self.inside.valid c.self.inside.most c.self.inside.names i place r c.in_ok-name.name c.self.invariant.0 there (ap (λ (r : Linked). r.next) (sym c.branch.view_is) ∙ c.in_ok-name.was {u = tt})
    (subst (λ (places : List Places). IsSomeAnd (slice_get (row_at (records_of places) (i + 1)) place) (λ n. n.name ≡ c.in_ok-name.name)) c.deref-2.ensures.value named)))
