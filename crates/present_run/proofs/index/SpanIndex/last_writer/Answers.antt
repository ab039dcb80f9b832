use Rattle.std.proofs.Common.{◌≡◌, ℕ, ◌+◌, List, None, Some, arith, inl, inr, subst}
use Rattle.std.proofs.lemmas.Bool.{cases_lt}
use Rattle.r3k_machine.specs.Run.{last_writer}
use Rattle.span_fact.specs.Span.{Span}
use Rattle.write_index.specs.Pages.{IsLast}
use Rattle.present_run.specs.Index.{Index, steps_at}
use Rattle.present_run.proofs.Agreeing.{none_from}
use Rattle.present_run.proofs.index.SpanIndex.last_writer.Goals as goal

pub returns-in-Some-writer_in : goal.returns-in-Some-writer_in
returns-in-Some-writer_in g c =
    let index : Index = c.args.self.now in
    let spans : List (List Span) = c.args.kept.now.rows in
    let at = c.in-Some.index in
    let last =
    subst (λ (m : ℕ). IsLast index.writes m c.loop-index.before (Some at)) c.mark-mark.ensures
    (subst (λ (x : Index). IsLast x.writes c.mark-mark.result c.loop-index.before (Some at)) c.self.view_is (c.in-Some.ensures {u = tt}).last)
    in
    let here : last_writer c.args.target (steps_at g.row.PAGES g.row.SPAN spans at) ≡ Some c.in-Some-writer_in.step = cc in (
      omega (arith, last.0, c.loop-index.invariant.bound),
      here,
      λ i beyond within.
          none_from g.row.PAGES g.row.SPAN index spans c.args.count c.args.target c.loop-index.before (at + 1) c.requires
          (λ k low below. last.2 k (omega (arith, low)) below) c.loop-index.invariant.none i (omega (arith, beyond)) within,
    )

pub loop-index-preserved : goal.loop-index-preserved
loop-index-preserved g c =
    let index : Index = c.args.self.now in
    let spans : List (List Span) = c.args.kept.now.rows in
    let at = c.in-Some.index in
    let last =
    subst (λ (m : ℕ). IsLast index.writes m c.loop-index.before (Some at)) c.mark-mark.ensures
    (subst (λ (x : Index). IsLast x.writes c.mark-mark.result c.loop-index.before (Some at)) c.self.view_is (c.in-Some.ensures {u = tt}).last)
    in
    let here : last_writer c.args.target (steps_at g.row.PAGES g.row.SPAN spans at) ≡ None = cc in record {
      none = λ i low within.
          elim (cases_lt at i) [
            | inl beyond ↦
                none_from g.row.PAGES g.row.SPAN index spans c.args.count c.args.target c.loop-index.before (at + 1) c.requires
                (λ k low below. last.2 k (omega (arith, low)) below) c.loop-index.invariant.none i (omega (arith, beyond)) within
            | inr not ↦
                let same : at ≡ i = omega (arith, low, not) in
                subst (λ (k : ℕ). last_writer c.args.target (steps_at g.row.PAGES g.row.SPAN spans k) ≡ None) same here
          ];
      bound = omega (arith, last.0, c.loop-index.invariant.bound);
    }

pub returns : goal.returns
returns g c = λ i within.
    let index : Index = c.args.self.now in
    let last =
    subst (λ (m : ℕ). IsLast index.writes m c.loop-index.before None) c.mark-mark.ensures
    (subst (λ (x : Index). IsLast x.writes c.mark-mark.result c.loop-index.before None) c.self.view_is (c.in_default.ensures {u = tt}).last)
    in
    none_from g.row.PAGES g.row.SPAN index c.args.kept.now.rows c.args.count c.args.target c.loop-index.before 0 c.requires
    (λ k _ below. last k below) c.loop-index.invariant.none i (omega arith) within
