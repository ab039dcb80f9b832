use Rattle.std.proofs.Common.{inl, refl}
use Rattle.wb_session.proofs.session.Session.visit.Goals as goal

pub returns-in-Ok-clause-answers : goal.returns-in-Ok-clause-answers
returns-in-Ok-clause-answers g c = inl (rw (← c.self.view_is, ← c.get.ensures.value, ← c.get-2.ensures.value, c.in-Ok.ensures.found, c.in-Ok.ensures.same) refl)
