use Rattle.std.proofs.Common.{◌≡◌, length, rc_value, nat_eq, sym, ap, ◌∙◌, subst, arith}
use Rattle.std.specs.List.{IsDistinct}
use Rattle.std.proofs.lemmas.List.{length-map}
use Rattle.present_run.specs.RecentStates.{positions_of}
use Rattle.present_run.proofs.Entries.{keys-shown}
use Rattle.present_run.proofs.recent_states.RecentStates.len.Goals as goal

pub returns : goal.returns
returns g c =
    let es = c.self.inside.states.entries in
    let long : length es ≡ length c.args.self.now = sym (length-map es (λ e. (e.0, rc_value e.1))) ∙ ap length c.self.view_is in
    record {
      len = c.len.ensures.len ∙ long;
      few = omega (arith, long, c.len.ensures.valid.1, c.self.invariant);
      distinct = subst (IsDistinct nat_eq) (sym (keys-shown rc_value es) ∙ ap positions_of c.self.view_is) c.len.ensures.valid.0;
    }
