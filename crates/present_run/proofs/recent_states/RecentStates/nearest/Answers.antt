use Rattle.std.proofs.Common.{Bor, Global, ◌≤◌, map, IfSome, refl, ap, ◌∙◌, arith}
use Rattle.std.specs.declared.rc.Rc.{Rc}
use Rattle.r3k_live.specs.declared.boundary.Boundary.{Boundary}
use Rattle.present_run.proofs.Nearest.{so_far-start, so_far-outside, so_far-less, so_far-found, so_far-end}
use Rattle.present_run.proofs.recent_states.RecentStates.nearest.Goals.{then-position-from-via-then-position-from, then-position-from-via-else-position-from+then-to-position, in_default-via-in-Some-nearest+else-position-best, in_default-via-in_default}
use Rattle.present_run.proofs.recent_states.RecentStates.nearest.Goals as goal

pub loop-position-init : goal.loop-position-init
loop-position-init g c =
    so_far-start (λ (s : Bor (Rc (Boundary g.row.PAGES) Global)). s.now.value) c.args.from c.args.to c.args.self.now _ (ap (map (λ e. (e.0, e.1.value))) (c.into_iter-position-iterator.ensures.into_iter_gives ∙ c.iter-position-items.ensures.rest) ∙ c.self.view_is)

pub loop-position-preserved-then-position-from : goal.loop-position-preserved-then-position-from
loop-position-preserved-then-position-from g c =
    so_far-outside (λ s. s.now.value) c.args.from c.args.to c.args.self.now _ _ _ _ (ap (map (λ e. (e.0, e.1.value))) c.in-Some.ensures.steps) (λ low high. elim c.then-position-from.branch [
      | then-position-from-via-then-position-from w ↦ omega (arith, low, w.if-position-from.true)
      | then-position-from-via-else-position-from+then-to-position w ↦ omega (arith, high, w.if-to-position.true)
    ]) c.loop-position.invariant

pub loop-position-preserved-then-position-best : goal.loop-position-preserved-then-position-best
loop-position-preserved-then-position-best g c =
    let so = so_far-less (λ s. s.now.value) c.args.from c.args.to c.args.self.now _ _ _ (c.in-Some-nearest.best, c.in-Some-nearest.field-0-1) (ap (map (λ e. (e.0, e.1.value))) c.in-Some.ensures.steps) c.if-position-best.true (rw c.in-Some-nearest.is at c.loop-position.invariant) in
    rw c.in-Some-nearest.is so

pub loop-position-preserved : goal.loop-position-preserved
loop-position-preserved g c =
    so_far-found (λ s. s.now.value) c.args.from c.args.to c.args.self.now _ _ _ c.loop-position.nearest c.in-Some.state (ap (map (λ e. (e.0, e.1.value))) c.in-Some.ensures.steps) refl c.if-position-from.false c.if-to-position.false (elim c.in_default.branch as (λ _. IfSome c.loop-position.nearest (λ f. f.0 ≤ c.in-Some.position.now)) [
      | in_default-via-in-Some-nearest+else-position-best w ↦ rw w.in-Some-nearest.is w.if-position-best.false
      | in_default-via-in_default w ↦ rw w.in_default.is tt
    ]) c.loop-position.invariant

pub returns : goal.returns
returns g c =
    so_far-end (λ s. s.now.value) c.args.from c.args.to c.args.self.now _ c.loop-position.nearest (ap (map (λ e. (e.0, e.1.value))) c.in-None.ensures.steps.0) c.loop-position.invariant
