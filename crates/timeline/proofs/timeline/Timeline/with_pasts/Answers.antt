use Rattle.std.proofs.Common.{inr, refl, sym, ◌∙◌}
use Rattle.std.proofs.lemmas.Bool.{true≢false}
use Rattle.timeline.proofs.timeline.Timeline.with_pasts.Goals as goal

pub returns-then-not-fits : goal.returns-then-not-fits
returns-then-not-fits g c = inr (refl, λ fits. absurd (true≢false (sym (c.fits.ensures.1 fits) ∙ c.if-not-fits.true)))

pub returns : goal.returns
returns g c = (c.fits.ensures.0 c.if-not-fits.false, c.in_ok-present.ensures {u = tt})
