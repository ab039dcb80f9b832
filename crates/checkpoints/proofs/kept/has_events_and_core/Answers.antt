use Rattle.std.proofs.Common.{sym, ap, ◌∙◌}
use Rattle.r3k_machine.specs.State.{State}
use Rattle.r3k_machine.specs.Same.{is_same_decides}
use Rattle.checkpoints.proofs.kept.has_events_and_core.Goals as goal

pub returns : goal.returns
returns g c =
    let kept = ap (λ (s : State). s.core) (c.deref.ensures ∙ c.start-kept.ensures.start) in
    let decides = is_same_decides c.core.result.now c.core-2.result.now in (
      λ equal. (
        sym c.events.ensures.events ∙ c.same_events.ensures.0 c.if-not-same_events.false,
        sym kept ∙ (sym c.core.ensures ∙ (decides.0 (sym c.eq.ensures ∙ equal) ∙ c.core-2.ensures)),
      ),
      λ same. c.eq.ensures ∙ decides.1 (c.core.ensures ∙ (kept ∙ (same.1 ∙ sym c.core-2.ensures))),
    )
