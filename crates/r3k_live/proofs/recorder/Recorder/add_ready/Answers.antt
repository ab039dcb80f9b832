use Rattle.std.proofs.Common.{rules, sym, subst}
use Rattle.r3k_live.specs.Recording.{IsReady, Recording}
use Rattle.r3k_live.proofs.Ready.{one_more_ready}
use Rattle.r3k_live.proofs.recorder.Recorder.add_ready.Goals as goal

pub invariant_of-self : goal.invariant_of-self
invariant_of-self g c = record {
  few = search rules;
  steps = search rules;
  last = search rules;
  sent = search rules;
  sent_fits = search rules;
  stored_touched = search rules;
  ready =
      one_more_ready g.row.PAGES c.self.inside.ready _ c.args.number c.args.page _ c.add.ensures c.self.invariant.ready
      (subst (λ (r : Recording). IsReady g.row.PAGES c.args.number c.args.page r) (sym c.self.view_is) c.requires.ready);
}
