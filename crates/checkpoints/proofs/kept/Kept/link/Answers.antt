use Rattle.std.proofs.Common.{◌+◌, List, length, slice_set, sym, ap, subst, ◌∙◌, arith}
use Rattle.std.proofs.Math.Path.{ap₂}
use Rattle.std.proofs.lemmas.Option.{IfSome_then}
use Rattle.r3k_machine.specs.State.{State}
use Rattle.span_fact.specs.Span.{Span}
use Rattle.checkpoints.specs.Kept.{Follows, Kept, first_at, row_at}
use Rattle.checkpoints.specs.Rows.{IsOwnName, Places, Linked, ends_of, records_of, spans_of, with_next}
use Rattle.checkpoints.proofs.Rows.{followed, item, kept_by, length_noted, room_kept, row_is, row_other, row_set, tie_kept, spans_noted, tied_row}
use Rattle.checkpoints.proofs.kept.Kept.link.Goals as goal

pub index_mut-requires : goal.index_mut-requires
index_mut-requires g c =
    let inside = c.self.inside in
    let follows = subst (λ (k : Kept). Follows g.row.PAGES g.row.SPAN (first_at k.rows c.args.index) (first_at k.rows (c.args.index + 1))) (sym c.self.view_is) c.requires.follows in
    let within = tied_row g.row.PAGES g.row.SPAN inside.rows.items c.args.index _ follows in
    omega (arith, within, inside.rows.ok.0)

pub invariant_of-self : goal.invariant_of-self
invariant_of-self g c =
    let pages = g.row.PAGES in
    let span = g.row.SPAN in
    let inside = c.self.inside in
    let places = inside.rows.items in
    let i = c.args.index in
    let p = c.index_mut.result.now in
    let q = c.note_next.new.self in
    let follows = subst (λ (k : Kept). Follows pages span (first_at k.rows i) (first_at k.rows (i + 1))) (sym c.self.view_is) c.requires.follows in
    let within = tied_row pages span places i _ follows in
    let there = item places i p within c.index_mut.ensures.value in
    let own : IsOwnName (row_at (records_of places) (i + 1)) c.in-Some.name =
    subst (λ (places : List Places). IsOwnName (row_at (records_of places) (i + 1)) c.in-Some.name) c.deref.ensures.value (c.in-Some.ensures {u = tt})
    in (
      tie_kept pages span (records_of places) (records_of (slice_set places i q)) inside.valid inside.most inside.names i c.in-Some.name c.self.invariant.0
          (row_set places i q within ∙ (c.note_next.ensures.records ∙ ap (with_next c.in-Some.name) (sym (row_is places i p there))))
          (λ j other. row_other places i j q other) c.if-name-self.true own (followed pages span places i follows),
      IfSome_then inside.reserved c.self.invariant.1
          (λ n is. room_kept places inside.most i n p q there (ap (λ (row : List Linked). length row) c.note_next.ensures.records ∙ length_noted c.in-Some.name p.records) c.note_next.ensures.room is),
      ap (λ ends. length (ends_of inside.ended ends)) (kept_by (λ p. p.end) places i p q there c.note_next.ensures.end) ∙ c.self.invariant.2,
    )

pub returns-then-name-self : goal.returns-then-name-self
returns-then-name-self g c =
    let places = c.self.inside.rows.items in
    let i = c.args.index in
    let p = c.index_mut.result.now in
    let q = c.note_next.new.self in
    let follows = subst (λ (k : Kept). Follows g.row.PAGES g.row.SPAN (first_at k.rows i) (first_at k.rows (i + 1))) (sym c.self.view_is) c.requires.follows in
    let within = tied_row g.row.PAGES g.row.SPAN places i _ follows in
    let there = item places i p within c.index_mut.ensures.value in
    ap₂ (λ (rows : List (List Span)) (ends : List State).
    let k : Kept = record { rows = rows; valid = c.self.inside.valid; most = c.self.inside.most; reserved = c.self.inside.reserved; ends = ends } in k)
    (kept_by (λ p. spans_of p.records) places i p q there (ap spans_of c.note_next.ensures.records ∙ spans_noted c.in-Some.name p.records))
    (ap (ends_of c.self.inside.ended) (kept_by (λ p. p.end) places i p q there c.note_next.ensures.end))
    ∙ c.self.view_is
