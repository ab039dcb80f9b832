use Rattle.std.proofs.Common.{◌/◌, ◌<◌, ℕ, Contains, subst}
use Rattle.present_run.specs.TimelineView.{TimelineView, holding}
use Rattle.present_run.specs.Reuse.{ServesFirst}
use Rattle.timeline.proofs.timeline.Timeline.recent_states.Goals as goal

pub returns-clause-served : goal.returns-clause-served
returns-clause-served g c =
    subst (λ (l : TimelineView). (position : ℕ) → Contains l.recent_states position → (index : ℕ) → index < position / g.row.SPAN → ServesFirst g.row.PAGES g.row.SPAN (holding l) index)
    c.self.view_is c.recent_states.ensures.served
