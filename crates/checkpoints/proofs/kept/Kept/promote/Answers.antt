use Rattle.std.proofs.Common.{◌<◌, List, length, sym, ap, subst, ◌∙◌, arith}
use Rattle.std.proofs.lemmas.Option.{IfSome_then}
use Rattle.span_fact.specs.Span.{Span}
use Rattle.checkpoints.specs.Kept.{Kept, promoted, row_at}
use Rattle.checkpoints.specs.Rows.{Linked, ends_of, spans_of}
use Rattle.checkpoints.proofs.Rows.{item, kept_by, length_promoted, place_within, promote_kept, room_kept, row_is, row_of, row_within, seen_other, seen_set, spans_promoted}
use Rattle.checkpoints.proofs.kept.Kept.promote.Goals as goal

pub index_mut-requires : goal.index_mut-requires
index_mut-requires g c =
    let inside = c.self.inside in
    let seen = subst (λ (k : Kept). c.args.place < length (row_at k.rows c.args.index)) (sym c.self.view_is) c.requires in
    let within = row_within inside.rows.items c.args.index c.args.place (place_within inside.rows.items c.args.index c.args.place seen) in
    omega (arith, within, inside.rows.ok.0)

pub promote-requires : goal.promote-requires
promote-requires g c =
    let places = c.self.inside.rows.items in
    let p = c.index_mut.result.now in
    let seen = subst (λ (k : Kept). c.args.place < length (row_at k.rows c.args.index)) (sym c.self.view_is) c.requires in
    let at = place_within places c.args.index c.args.place seen in
    let there = item places c.args.index p (row_within places c.args.index c.args.place at) c.index_mut.ensures.value in
    (omega arith, subst (λ (row : List Linked). c.args.place < length row) (row_is places c.args.index p there) at)

pub invariant_of-self : goal.invariant_of-self
invariant_of-self g c =
    let inside = c.self.inside in
    let places = inside.rows.items in
    let p = c.index_mut.result.now in
    let q = c.promote.new.self in
    let seen = subst (λ (k : Kept). c.args.place < length (row_at k.rows c.args.index)) (sym c.self.view_is) c.requires in
    let at = place_within places c.args.index c.args.place seen in
    let there = item places c.args.index p (row_within places c.args.index c.args.place at) c.index_mut.ensures.value in
    let within = subst (λ (row : List Linked). c.args.place < length row) (row_is places c.args.index p there) at in
    let long = ap (λ (row : List Linked). length row) c.promote.ensures.records ∙ length_promoted c.args.place p.records within in (
      promote_kept g.row.PAGES g.row.SPAN places inside.valid inside.most inside.names c.args.index c.args.place p q c.self.invariant.0 there within c.promote.ensures.records,
      IfSome_then inside.reserved c.self.invariant.1 (λ n is. room_kept places inside.most c.args.index n p q there long c.promote.ensures.room is),
      ap (λ ends. length (ends_of inside.ended ends)) (kept_by (λ p. p.end) places c.args.index p q there c.promote.ensures.end) ∙ c.self.invariant.2,
    )

pub returns-clause-row : goal.returns-clause-row
returns-clause-row g c =
    let places = c.self.inside.rows.items in
    let i = c.args.index in
    let p = c.index_mut.result.now in
    let seen = subst (λ (k : Kept). c.args.place < length (row_at k.rows i)) (sym c.self.view_is) c.requires in
    let less = row_within places i c.args.place (place_within places i c.args.place seen) in
    let there = item places i p less c.index_mut.ensures.value in
    seen_set places i c.promote.new.self less
    ∙ (ap spans_of c.promote.ensures.records
    ∙ (spans_promoted c.args.place p.records
    ∙ (ap (λ (row : List Linked). promoted c.args.place (spans_of row)) (sym (row_is places i p there))
    ∙ (ap (λ (row : List Span). promoted c.args.place row) (sym (row_of places i))
    ∙ ap (λ (k : Kept). promoted c.args.place (row_at k.rows i)) c.self.view_is))))

pub returns-clause-others : goal.returns-clause-others
returns-clause-others g c = λ i other.
    seen_other c.self.inside.rows.items c.args.index i c.promote.new.self other ∙ ap (λ (k : Kept). row_at k.rows i) c.self.view_is

pub returns-clause-ends : goal.returns-clause-ends
returns-clause-ends g c =
    let places = c.self.inside.rows.items in
    let i = c.args.index in
    let p = c.index_mut.result.now in
    let seen = subst (λ (k : Kept). c.args.place < length (row_at k.rows i)) (sym c.self.view_is) c.requires in
    let there = item places i p (row_within places i c.args.place (place_within places i c.args.place seen)) c.index_mut.ensures.value in
    ap (ends_of c.self.inside.ended) (kept_by (λ p. p.end) places i p c.promote.new.self there c.promote.ensures.end) ∙ ap (λ (k : Kept). k.ends) c.self.view_is
