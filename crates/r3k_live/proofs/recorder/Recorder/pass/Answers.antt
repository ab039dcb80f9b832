use Rattle.std.proofs.Common.{ℕ, ◌<◌, All, IsTrue, length, slice_index, refl, sym, subst, ap, ◌∙◌, arith, rules}
use Rattle.r3k_live.specs.Recording.{Recording}
use Rattle.r3k_live.specs.Waiting.{is_among}
use Rattle.r3k_live.proofs.Holding.{pass_all, passed_is, passed_too}
use Rattle.r3k_live.proofs.Ready.{still_ready}
use Rattle.r3k_live.proofs.recorder.Recorder.pass.Goals as goal

pub pass-requires : goal.pass-requires
pass-requires g c =
    let are = subst (λ (r : Recording). All (λ word. (word.place < length r.last) × (c.args.since < slice_index r.last word.place)) c.args.held.now) (sym c.self.view_is) c.requires.are in (
      omega arith,
      (
        omega (arith, c.requires.room, ap (λ (r : Recording). r.steps) c.self.view_is, g.SPAN.fits),
        pass_all c.args.since c.self.inside.steps c.args.passed c.self.inside.stores.last c.args.held.now
            (omega (arith, c.requires.again, ap (λ (r : Recording). r.steps) c.self.view_is)) are,
      ),
    )

pub returns : goal.returns
returns g c =
    let are = subst (λ (r : Recording). All (λ word. (word.place < length r.last) × (c.args.since < slice_index r.last word.place)) c.args.held.now) (sym c.self.view_is) c.requires.are in
    let all = subst (λ (r : Recording). (place : ℕ) → c.args.since < slice_index r.last place → IsTrue (is_among c.args.held.now place)) (sym c.self.view_is) c.requires.all in
    passed_too g.row.PAGES c.args.since c.args.passed _ _ _ c.self.view_is (record {
      steps = refl;
      last = λ place within early.
          c.pass.ensures.last place
          ∙ passed_is c.args.since c.self.inside.steps c.args.passed place c.self.inside.stores.last c.args.held.now are (all place) early;
      destinations = c.pass-2.ensures;
      dirty = c.pass.ensures.dirty;
      touched = refl;
      sent = refl;
      code_pages = refl;
    })

pub invariant_of-self : goal.invariant_of-self
invariant_of-self g c = record {
  few = search rules;
  steps = search rules;
  last = search rules;
  sent = search rules;
  sent_fits = search rules;
  stored_touched = search rules;
  ready = still_ready g.row.PAGES c.self.inside.ready _ _ c.self.invariant.ready (λ page held. held) (λ number held. held);
}
