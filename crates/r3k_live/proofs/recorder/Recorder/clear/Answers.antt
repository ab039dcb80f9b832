use Rattle.std.proofs.Common.{rules, ◌||◌, ℕ, List, nat_eq, slice_index, ap, ◌∙◌}
use Rattle.r3k_pages.specs.Pages.{holds}
use Rattle.r3k_live.proofs.Ready.{none_ready}
use Rattle.r3k_live.proofs.recorder.Recorder.clear.Goals as goal

pub invariant_of-self : goal.invariant_of-self
invariant_of-self g c = record {
  few = search rules;
  steps = search rules;
  last = search rules;
  sent = search rules;
  sent_fits = search rules;
  stored_touched = search rules;
  ready =
      none_ready g.row.PAGES c.self.inside.ready c.take_out.new.self _ _ c.self.invariant.ready
      (λ number. c.take_out.ensures number ∙ ap (λ (set : List ℕ). nat_eq (slice_index c.self.inside.ready number) 0 || holds set number) c.pages.ensures.pages);
}
