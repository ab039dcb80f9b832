use Rattle.std.proofs.Common.{◌≡◌, MatchOption, None, Some, sym, ap, subst, ◌∙◌, arith, slice_get}
use Rattle.std.proofs.lemmas.List.{length-map}
use Rattle.std.proofs.lemmas.Option.{slice_get-map}
use Rattle.std.specs.Option.{option_map}
use Rattle.checkpoints.specs.Kept.{Kept}
use Rattle.checkpoints.specs.Rows.{Places, ends_in}
use Rattle.checkpoints.proofs.Rows.{ends_at, ends_within, item}
use Rattle.checkpoints.proofs.kept.Kept.end.Goals as goal

pub index-requires : goal.index-requires
index-requires g c =
    let inside = c.self.inside in
    omega (arith, ends_within inside.ended (ends_in inside.rows.items), c.self.invariant.2, c.if-index-self.false, length-map inside.rows.items (λ (p : Places). p.end), inside.rows.ok.0)

pub returns : goal.returns
returns g c =
    let inside = c.self.inside in
    let places = inside.rows.items in
    let i = c.args.index in
    let p = c.index.result.now in
    let less = ends_within inside.ended (ends_in places) in
    let there = item places i p (omega (arith, less, c.self.invariant.2, c.if-index-self.false, length-map places (λ (p : Places). p.end))) c.index.ensures in
    let is = ends_at inside.ended (ends_in places) i p.end c.self.invariant.2 (omega (arith, c.if-index-self.false))
    (slice_get-map (λ (p : Places). p.end) places i ∙ ap (option_map (λ (p : Places). p.end)) there) in
    subst (λ o. MatchOption c.end.result (o ≡ None) (λ end. o ≡ Some end.now.value)) (sym is ∙ ap (λ (k : Kept). slice_get k.ends i) c.self.view_is) c.end.ensures
