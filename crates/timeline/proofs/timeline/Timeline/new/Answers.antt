use Rattle.timeline.proofs.timeline.Timeline.new.Goals as goal

pub returns : goal.returns
returns g c = c.with_pasts.ensures
