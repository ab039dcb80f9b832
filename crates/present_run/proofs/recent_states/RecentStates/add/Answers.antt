use Rattle.std.proofs.Common.{◌≡◌, ◌∷◌, ◌-◌, rc_value, nat_eq, None, refl, sym, ap, ◌∙◌, take}
use Rattle.std.proofs.lemmas.List.{take-map}
use Rattle.std.specs.Map.{lookup_entry}
use Rattle.present_run.proofs.Entries.{shown, put_new-shown}
use Rattle.present_run.proofs.Touched.{absent-none, added-among}
use Rattle.present_run.proofs.recent_states.RecentStates.add.Goals as goal

pub returns : goal.returns
returns g c =
    let old = c.args.self.now in
    let absent : lookup_entry (nat_eq c.args.position) (shown rc_value c.self.inside.states.entries) ≡ None =
    ap (lookup_entry (nat_eq c.args.position)) c.self.view_is ∙ absent-none c.args.position old c.requires in
    let added : shown rc_value c.put.new.self.entries ≡ take 8 ((c.args.position, c.args.state.value) ∷ old) =
    ap (λ cache. shown rc_value cache.entries) c.in_ok-put.ensures.entries ∙ put_new-shown rc_value nat_eq c.self.inside.states c.args.position c.args.state absent
    ∙ (λ i. (c.args.position, c.args.state.value) ∷ take (c.self.invariant i - 1) (c.self.view_is i)) in
    rw added (record {
      added = refl;
      positions = ap (λ l. c.args.position ∷ l) (sym (take-map (λ e. e.0) 7 old));
      among = added-among 8 (c.args.position, c.args.state.value) old;
      same = tt;
    })
