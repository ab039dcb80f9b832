use Rattle.std.proofs.Common.{arith, refl, sym, ◌/◌, ◌%◌, Contains, ap, ◌∙◌, subst, inl, inr}
use Rattle.present_run.specs.RecentStates.{positions_of}
use Rattle.r3k_machine.specs.Run.{state_at}
use Rattle.r3k_machine.specs.State.{State}
use Rattle.present_run.specs.History.{History}
use Rattle.present_run.specs.Reuse.{Holding, Reaches, Spends}
use Rattle.present_run.specs.Shown.{holding_of}
use Rattle.present_run.proofs.Held.{kept_here, recent_here, keeps_new, keeps_not, keeps_there, none_here, stays, there_are}
use Rattle.present_run.proofs.Spans.{if_some}
use Rattle.present_run.proofs.present.Present.core_at.Goals as goal

pub invariant_of-self-in-Some : goal.invariant_of-self-in-Some
invariant_of-self-in-Some g c = record {
  fits = c.args.self.now.fits;
  of = c.args.self.now.of;
  are_recent = λ e there. c.args.self.now.are_recent e (c.touch.ensures.among e there);
}

pub returns-in-Some-clause-core : goal.returns-in-Some-clause-core
returns-in-Some-clause-core g c =
    let now = c.args.self.now in
    let recent = recent_here g.row.PAGES g.row.SPAN (holding_of now).history now.runs.records.kept.valid c.args.position c.in-Some.field-0-0 now.recent_states c.in-Some.state.now.value now.are_recent c.in-Some.ensures in
    c.in_ok-core.ensures {u = tt} ∙ (c.core-in-Some.ensures ∙ ap (λ (s : State). s.core) (c.deref.ensures ∙ recent.is))

pub returns-in-Some-clause-reaches : goal.returns-in-Some-clause-reaches
returns-in-Some-clause-reaches g c =
    let now = c.args.self.now in
    let position = c.args.position in
    let recent = recent_here g.row.PAGES g.row.SPAN (holding_of now).history now.runs.records.kept.valid position c.in-Some.field-0-0 now.recent_states c.in-Some.state.now.value now.are_recent c.in-Some.ensures in
    there_are g.row.PAGES g.row.SPAN (position / g.row.SPAN) (holding_of now) (λ i below. (now.of.records.joined i (omega (arith, below, recent.joined))).near)

pub returns-in-Some-clause-keeps_state : goal.returns-in-Some-clause-keeps_state
returns-in-Some-clause-keeps_state g c =
    let now = c.args.self.now in
    let position = c.args.position in
    let there = kept_here position c.in-Some.field-0-0 now.recent_states c.in-Some.state.now.value c.in-Some.ensures in
    let recent = recent_here g.row.PAGES g.row.SPAN (holding_of now).history now.runs.records.kept.valid position c.in-Some.field-0-0 now.recent_states c.in-Some.state.now.value now.are_recent c.in-Some.ensures in
    keeps_there g.row.SPAN position (positions_of now.recent_states) now.runs.machine.live.steps c.in_ok-core.core refl refl there recent.inside refl (c.touch.ensures.first there)

pub returns-in_err-go_to-clause-keeps_state : goal.returns-in_err-go_to-clause-keeps_state
returns-in_err-go_to-clause-keeps_state g c =
    keeps_not g.row.SPAN c.args.position (positions_of c.args.self.now.recent_states) _ refl (none_here c.args.position c.args.self.now.recent_states c.in_default.ensures)
    (ap positions_of c.go_to.ensures.stays.recent_states)

pub returns-in_err-core-2-clause-keeps_state : goal.returns-in_err-core-2-clause-keeps_state
returns-in_err-core-2-clause-keeps_state g c =
    keeps_not g.row.SPAN c.args.position (positions_of c.args.self.now.recent_states) _ refl (none_here c.args.position c.args.self.now.recent_states c.in_default.ensures)
    (ap positions_of c.go_to.ensures.stays.recent_states)

pub keep_state-requires : goal.keep_state-requires
keep_state-requires g c =
    let absent = none_here c.args.position c.args.self.now.recent_states c.in_default.ensures in (
      omega arith,
      (
        (c.in_ok-go_to.ensures {u = tt}).stands,
        (
          λ there. absent (subst (λ l. Contains (positions_of l) c.args.position) c.go_to.ensures.stays.recent_states there),
          (c.in_ok-go_to.ensures {u = tt}).joined,
        ),
      ),
    )

pub returns-clause-core : goal.returns-clause-core
returns-clause-core g c =
    (c.in_ok-core-2.ensures {u = tt})
    ∙ (c.core-2.ensures
    ∙ (ap (λ (s : State). s.core) (if_some _ c.go_to.new.self.runs.machine.at c.args.position (c.in_ok-go_to.ensures {u = tt}).stands c.go_to.new.self.of.machine.stands)
    ∙ ap (λ (h : History). (state_at g.row.PAGES h.image h.log c.args.position).core) c.go_to.ensures.stays.history))

pub returns-clause-spends : goal.returns-clause-spends
returns-clause-spends g c =
    let span = g.row.SPAN in
    subst (λ (h : Holding). Spends g.row.PAGES span (c.args.position / span) (c.args.position % span) (holding_of c.args.self.now) h) (sym c.keep_state.ensures.same) c.go_to.ensures.spends

pub returns-clause-reaches : goal.returns-clause-reaches
returns-clause-reaches g c =
    let span = g.row.SPAN in
    subst (λ (h : Holding). Reaches g.row.PAGES span (c.args.position / span) (holding_of c.args.self.now) h) (sym c.keep_state.ensures.same) (c.in_ok-go_to.ensures {u = tt}).reaches

pub returns-clause-keeps_state : goal.returns-clause-keeps_state
returns-clause-keeps_state g c =
    let states = positions_of c.go_to.new.self.recent_states in
    let same = ap positions_of (sym c.go_to.ensures.stays.recent_states) in
    let absent = none_here c.args.position c.args.self.now.recent_states c.in_default.ensures in
    keeps_new g.row.SPAN c.args.position states c.in_ok-core-2.core same
    (λ there. absent (subst (λ l. Contains l c.args.position) (sym same) there)) (λ start. ap positions_of (c.keep_state.ensures.start start))
    (elim c.keep_state.ensures.positions [
      | inl added ↦ inl added
      | inr kept ↦ inr (ap positions_of kept)
    ])

pub returns-in-Some-clause-spends : goal.returns-in-Some-clause-spends
returns-in-Some-clause-spends g c = stays g.row.PAGES g.row.SPAN (c.args.position / g.row.SPAN) (c.args.position % g.row.SPAN) (holding_of c.args.self.now)

pub returns-in_err-core-clause-spends : goal.returns-in_err-core-clause-spends
returns-in_err-core-clause-spends g c = stays g.row.PAGES g.row.SPAN (c.args.position / g.row.SPAN) (c.args.position % g.row.SPAN) (holding_of c.args.self.now)
