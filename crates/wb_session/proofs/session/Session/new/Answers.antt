use Rattle.std.proofs.Common.{sym, subst, arith}
use Rattle.r3k_image.specs.Boot.{FitsRam}
use Rattle.timeline.specs.TimelineView.{TimelineView}
use Rattle.wb_session.proofs.session.Session.new.Goals as goal

pub invariant_of-result : goal.invariant_of-result
invariant_of-result g c =
    let made = c.in_ok-with_pasts.ensures {u = tt} in record {
      sizes = c.requires.sizes;
      fits = subst (λ (h : TimelineView). FitsRam g.row.PAGES h.history.image) (sym made.1) made.0;
      position = omega arith;
    }
