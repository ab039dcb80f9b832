use Rattle.std.proofs.Common.{rules, ◌||◌, Bool, nat_eq, ap, ◌∙◌}
use Rattle.r3k_live.proofs.Ready.{still_ready}
use Rattle.r3k_live.proofs.recorder.Recorder.note_code_page.Goals as goal

pub invariant_of-self : goal.invariant_of-self
invariant_of-self g c = record {
  few = search rules;
  steps = search rules;
  last = search rules;
  sent = search rules;
  sent_fits = search rules;
  stored_touched = search rules;
  ready = still_ready g.row.PAGES c.self.inside.ready _ _ c.self.invariant.ready (λ page held. held) (λ number held. c.mark.ensures number ∙ ap (λ (b : Bool). b || nat_eq c.args.page number) held);
}
