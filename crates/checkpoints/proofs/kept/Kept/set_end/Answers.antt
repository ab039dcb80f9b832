use Rattle.std.proofs.Common.{◌≡◌, ◌∷◌, ◌++◌, List, IsSome, drop, length, max, slice_set, suc, take, sym, ap, subst, ◌∙◌, arith}
use Rattle.std.proofs.Math.Path.{ap₂}
use Rattle.std.proofs.lemmas.List.{length-map, map-set}
use Rattle.std.proofs.lemmas.Option.{IfSome_then}
use Rattle.r3k_machine.specs.State.{State}
use Rattle.span_fact.specs.Span.{Span}
use Rattle.checkpoints.specs.Kept.{Kept, first_at}
use Rattle.checkpoints.specs.Rows.{AreRows, Linked, Places, ends_in, ends_of, spans_of}
use Rattle.checkpoints.proofs.Rows.{ends_long, ends_set, first_there, item, kept_by, room_kept, row_within}
use Rattle.checkpoints.proofs.kept.Kept.set_end.Goals as goal

pub invariant_of-self : goal.invariant_of-self
invariant_of-self g c =
    let inside = c.self.inside in
    let places = inside.rows.items in
    let i = c.args.index in
    let p = c.index_mut.result.now in
    let q = c.set_end.new.self in
    let within = row_within places i 0 (first_there places i (subst (λ (k : Kept). IsSome (first_at k.rows i)) (sym c.self.view_is) c.requires.there)) in
    let there = item places i p within c.index_mut.ensures.value in
    let next = c.requires.next in
    let long = ap (λ (k : Kept). length k.ends) c.self.view_is in (
      subst (λ (rows : List (List Linked)). AreRows g.row.PAGES g.row.SPAN rows inside.valid inside.most inside.names)
          (sym (kept_by (λ p. p.records) places i p q there c.set_end.ensures.records)) c.self.invariant.0,
      IfSome_then inside.reserved c.self.invariant.1
          (λ n is. room_kept places inside.most i n p q there (ap (λ (row : List Linked). length row) c.set_end.ensures.records) c.set_end.ensures.room is),
      ap (λ ends. length (ends_of c.max-self-inside.result ends)) (map-set (λ (p : Places). p.end) places i q ∙ ap (slice_set (ends_in places) i) c.set_end.ensures.end)
          ∙ (ap length
          (ends_set i inside.ended c.max-self-inside.result (ends_in places) c.args.end.value c.self.invariant.2 (omega (arith, next, long, c.self.invariant.2))
          (omega (arith, within, length-map places (λ (p : Places). p.end))) (omega (arith, c.max-self-inside.ensures)))
          ∙ (ends_long (ends_of inside.ended (ends_in places)) i c.args.end.value (omega (arith, next, long))
          ∙ (let same : max (length (ends_of inside.ended (ends_in places))) (suc i) ≡ c.max-self-inside.result = omega (arith, c.self.invariant.2, c.max-self-inside.ensures) in same))),
    )

pub returns : goal.returns
returns g c =
    let inside = c.self.inside in
    let places = inside.rows.items in
    let i = c.args.index in
    let p = c.index_mut.result.now in
    let q = c.set_end.new.self in
    let within = row_within places i 0 (first_there places i (subst (λ (k : Kept). IsSome (first_at k.rows i)) (sym c.self.view_is) c.requires.there)) in
    let there = item places i p within c.index_mut.ensures.value in
    let next = c.requires.next in
    let long = ap (λ (k : Kept). length k.ends) c.self.view_is in
    ap₂ (λ (rows : List (List Span)) (ends : List State).
    let k : Kept = record { rows = rows; valid = inside.valid; most = inside.most; reserved = inside.reserved; ends = ends } in k)
    (kept_by (λ p. spans_of p.records) places i p q there (ap spans_of c.set_end.ensures.records))
    (ap (ends_of c.max-self-inside.result) (map-set (λ (p : Places). p.end) places i q ∙ ap (slice_set (ends_in places) i) c.set_end.ensures.end)
    ∙ ends_set i inside.ended c.max-self-inside.result (ends_in places) c.args.end.value c.self.invariant.2 (omega (arith, next, long, c.self.invariant.2))
    (omega (arith, within, length-map places (λ (p : Places). p.end))) (omega (arith, c.max-self-inside.ensures)))
    ∙ ap (λ (k : Kept). let now : Kept = record k { ends = take i k.ends ++ c.args.end.value ∷ drop (suc i) k.ends } in now) c.self.view_is
