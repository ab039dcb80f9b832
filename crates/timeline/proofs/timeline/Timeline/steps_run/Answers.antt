use Rattle.std.proofs.Common.{ap, ◌∙◌}
use Rattle.present_run.specs.TimelineView.{TimelineView}
use Rattle.timeline.proofs.timeline.Timeline.steps_run.Goals as goal

pub returns : goal.returns
returns g c = c.steps_run.ensures ∙ ap (λ (h : TimelineView). h.steps) c.self.view_is
