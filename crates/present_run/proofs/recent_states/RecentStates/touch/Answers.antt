use Rattle.std.proofs.Common.{◌≡◌, rc_value, nat_eq, refl, ap, ◌∙◌}
use Rattle.present_run.specs.RecentStates.{touched}
use Rattle.lru.proofs.CallerLemmas.{Contains-promoted}
use Rattle.present_run.proofs.Entries.{shown, promoted-shown}
use Rattle.present_run.proofs.Touched.{touched-first, touched-absent}
use Rattle.present_run.proofs.recent_states.RecentStates.touch.Goals as goal

pub returns : goal.returns
returns g c =
    let old = c.args.self.now in
    let order : shown rc_value c.promote.new.self.entries ≡ touched c.args.position old =
    ap (λ cache. shown rc_value cache.entries) c.promote.ensures.entries ∙ promoted-shown rc_value (nat_eq c.args.position) c.self.inside.states.entries ∙ ap (touched c.args.position) c.self.view_is in
    rw order (record {
      order = refl;
      first = touched-first c.args.position old;
      absent = touched-absent c.args.position old;
      among = Contains-promoted (nat_eq c.args.position) old;
    })
