use Rattle.std.proofs.Common.{◌≡◌, ◌∷◌, ◌-◌, ◌<◌, ◌≤◌, ℕ, List, None, Some, IsOk, length, slice_set, take, refl, sym, ap, subst, ◌∙◌, arith}
use Rattle.span_fact.specs.Span.{Span}
use Rattle.checkpoints.specs.Kept.{Kept, row_at}
use Rattle.checkpoints.specs.Rows.{IsRoom, Places, Linked, ends_of, records_of, rows_of, spans_of}
use Rattle.checkpoints.proofs.Rows.{item, kept_by, not_both, put_kept, row_is, row_of, row_other, row_set, seen_other, seen_set, some_is, spans_put}
use Rattle.checkpoints.proofs.kept.Kept.put.Goals as goal

pub index_mut-requires : goal.index_mut-requires
index_mut-requires g c =
    let inside = c.self.inside in
    let n = c.index-index.result in
    let room = some_is inside.reserved n (IsRoom inside.rows.items inside.most) (ap (λ (k : Kept). k.reserved) c.self.view_is ∙ (c.in_ok-reserve.ensures {u = tt}).reserved) c.self.invariant.1 in
    omega (arith, room.there, inside.rows.ok.0)

pub put-requires : goal.put-requires
put-requires g c =
    let inside = c.self.inside in
    let places = inside.rows.items in
    let n = c.index-index.result in
    let p = c.index_mut.result.now in
    let room = some_is inside.reserved n (IsRoom places inside.most) (ap (λ (k : Kept). k.reserved) c.self.view_is ∙ (c.in_ok-reserve.ensures {u = tt}).reserved) c.self.invariant.1 in
    let there = item places n p room.there c.index_mut.ensures.value in (
      omega arith,
      (
        omega arith,
        (
          c.self.invariant.0.some,
          (
            subst (λ (row : List Linked). length row ≤ inside.most) (row_is places n p there) (c.self.invariant.0.few n),
            some_is _ p (λ (p : Places). ¬ (length p.records ≡ inside.most) → length p.records < p.room) there room.room,
          ),
        ),
      ),
    )

pub returns-in_err-reserve-clause-free : goal.returns-in_err-reserve-clause-free
returns-in_err-reserve-clause-free g c = λ reserved.
    let ok : IsOk c.reserve.result = c.reserve.ensures.free (reserved ∙ ap (λ (n : ℕ). Some n) (sym c.index-index.ensures)) in
    absurd (not_both c.reserve.result _ (c.in_err-reserve.was {u = tt}) ok)

pub invariant_of-self : goal.invariant_of-self
invariant_of-self g c =
    let inside = c.self.inside in
    let places = inside.rows.items in
    let n = c.index-index.result in
    let p = c.index_mut.result.now in
    let q = c.put.new.self in
    let room = some_is inside.reserved n (IsRoom places inside.most) (ap (λ (k : Kept). k.reserved) c.self.view_is ∙ (c.in_ok-reserve.ensures {u = tt}).reserved) c.self.invariant.1 in
    let there = item places n p room.there c.index_mut.ensures.value in
    let r : Linked = record { span = c.args.fact; name = inside.names; next = None } in (
      put_kept g.row.PAGES g.row.SPAN (records_of places) (records_of (slice_set places n q)) inside.valid inside.most inside.names c.saturating_add-self-inside.result n r c.self.invariant.0
          (row_set places n q room.there ∙ (c.put.ensures.records ∙ ap (λ (row : List Linked). r ∷ take (inside.most - 1) row) (sym (row_is places n p there))))
          (λ i other. row_other places n i q other) (sym c.index-index.ensures) refl refl (omega (arith, c.saturating_add-self-inside.ensures)),
      tt,
      ap (λ ends. length (ends_of inside.ended ends)) (kept_by (λ p. p.end) places n p q there c.put.ensures.end) ∙ c.self.invariant.2,
    )

pub returns-clause-there : goal.returns-clause-there
returns-clause-there g c =
    let inside = c.self.inside in
    let places = inside.rows.items in
    let n = c.index-index.result in
    let p = c.index_mut.result.now in
    let q = c.put.new.self in
    let room = some_is inside.reserved n (IsRoom places inside.most) (ap (λ (k : Kept). k.reserved) c.self.view_is ∙ (c.in_ok-reserve.ensures {u = tt}).reserved) c.self.invariant.1 in
    let there = item places n p room.there c.index_mut.ensures.value in
    let r : Linked = record { span = c.args.fact; name = inside.names; next = None } in
    let most : inside.most ≡ c.args.self.now.most = ap (λ (k : Kept). k.most) c.self.view_is ∙ c.reserve.ensures.most in
    let row : spans_of p.records ≡ row_at c.args.self.now.rows c.args.fact.index =
    ap spans_of (sym (row_is places n p there))
    ∙ (sym (row_of places n)
    ∙ (ap (λ (k : Kept). row_at k.rows n) c.self.view_is ∙ (c.reserve.ensures.rows n ∙ ap (row_at c.args.self.now.rows) c.index-index.ensures)))
    in
    ap (row_at (rows_of (slice_set places n q))) (sym c.index-index.ensures)
    ∙ (seen_set places n q room.there
    ∙ (ap spans_of c.put.ensures.records
    ∙ (spans_put r (inside.most - 1) p.records
    ∙ (ap (λ (row : List Span). c.args.fact ∷ take (inside.most - 1) row) row
    ∙ ap (λ (most : ℕ). c.args.fact ∷ take (most - 1) (row_at c.args.self.now.rows c.args.fact.index)) most))))

pub returns-clause-others : goal.returns-clause-others
returns-clause-others g c = λ i other.
    seen_other c.self.inside.rows.items c.index-index.result i c.put.new.self (λ same. other (same ∙ c.index-index.ensures))
    ∙ (ap (λ (k : Kept). row_at k.rows i) c.self.view_is ∙ c.reserve.ensures.rows i)

pub returns-clause-ends : goal.returns-clause-ends
returns-clause-ends g c =
    let inside = c.self.inside in
    let places = inside.rows.items in
    let n = c.index-index.result in
    let p = c.index_mut.result.now in
    let room = some_is inside.reserved n (IsRoom places inside.most) (ap (λ (k : Kept). k.reserved) c.self.view_is ∙ (c.in_ok-reserve.ensures {u = tt}).reserved) c.self.invariant.1 in
    let there = item places n p room.there c.index_mut.ensures.value in
    ap (ends_of inside.ended) (kept_by (λ p. p.end) places n p c.put.new.self there c.put.ensures.end) ∙ (ap (λ (k : Kept). k.ends) c.self.view_is ∙ c.reserve.ensures.ends)
