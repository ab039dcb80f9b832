use Rattle.std.proofs.Common.{inl, inr, ap, subst, ◌∙◌, Contains}
use Rattle.r3k_machine.specs.State.{State}
use Rattle.present_run.specs.Shown.{holding_of}
use Rattle.present_run.proofs.Held.{new_recent, on}
use Rattle.present_run.proofs.Spans.{if_some}
use Rattle.present_run.proofs.present.Present.keep_state.Goals as goal

pub invariant_of-self-clause-are_recent : goal.invariant_of-self-clause-are_recent
invariant_of-self-clause-are_recent g c = λ e there.
    let now = c.args.self.now in
    let position = c.args.position in
    let is = (c.in-Ok.ensures {u = tt}).kept ∙ if_some _ now.runs.machine.at position c.requires.stands now.of.machine.stands in
    on _ _ c.add-refused.result c.add-refused.ensures.among c.add-refused.ensures.same
    (λ among. elim (among e there) [
      | inl new ↦ new_recent g.row.PAGES g.row.SPAN (holding_of now).history now.runs.records.kept.valid position e c.requires.joined c.if-position-eq0.false (new ∙ ap (λ (s : State). (position, s)) is)
      | inr old ↦ now.are_recent e old
    ])
    (λ same. now.are_recent e (subst (λ l. Contains l e) same there))
