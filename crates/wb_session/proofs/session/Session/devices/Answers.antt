use Rattle.std.proofs.Common.{refl, subst}
use Rattle.wb_session.specs.Cost.{AsksState}
use Rattle.wb_session.specs.Session.{Held}
use Rattle.wb_session.proofs.Costs.{state_refused, state_shown}
use Rattle.wb_session.proofs.session.Session.devices.Goals.{in-Ok, in-Err}
use Rattle.wb_session.proofs.session.Session.devices.Goals as goal

pub returns-clause-costs : goal.returns-clause-costs
returns-clause-costs g c =
    let pages = g.row.PAGES in
    let span = g.row.SPAN in
    let old : Held = record { timeline = c.self.inside.timeline; position = c.self.inside.position } in
    let new : Held = record { timeline = c.core_at.new.self; position = c.self.inside.position } in
    subst (λ (s : Held). AsksState pages span s new c.match-core_at.result) c.self.view_is
    (elim c.match-core_at.branch [
      | in-Ok w ↦ rw w.result-is (state_shown pages span old new w.in-Ok.core _ refl w.in-Ok.ensures.asks w.in-Ok.ensures.keeps_state)
      | in-Err w ↦ rw w.result-is (state_refused pages span old new w.in-Err.fault w.in-Err.ensures.asks w.in-Err.ensures.keeps_state)
    ])
