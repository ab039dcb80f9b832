use Rattle.std.proofs.Common.{◌≡◌, ℕ, ◌+◌, ◌-◌, ◌≤◌, List, Option, unwrap_or, sym, ap, ◌∙◌, arith, subst}
use Rattle.std.proofs.Math.Path.{ap₂}
use Rattle.input_log.specs.Event.{LogEvent}
use Rattle.r3k_machine.specs.State.{State}
use Rattle.r3k_machine.specs.Run.{next_visit, run}
use Rattle.r3k_live.specs.Visits.{first_visit}
use Rattle.present_run.proofs.Spans.{after_time, gone_on, gone_within, if_some, seen}
use Rattle.present_run.proofs.machine.Machine.visit.Goals as goal

pub overflow_add-self : goal.overflow_add-self
overflow_add-self g c =
    let steps = c.args.last - c.args.time in
    let bound : c.in-Some.steps ≤ steps = subst (λ (o : Option ℕ). unwrap_or o steps ≤ steps) c.in-Some.is c.visit-found.ensures.bound in
    record { fits = omega (arith, bound, c.requires.before, c.ranges.last.fits) }

pub overflow_add-result : goal.overflow_add-result
overflow_add-result g c =
    let steps = c.args.last - c.args.time in
    let bound : c.in-Some.steps ≤ steps = subst (λ (o : Option ℕ). unwrap_or o steps ≤ steps) c.in-Some.is c.visit-found.ensures.bound in
    record { fits = omega (arith, bound, c.requires.before, c.ranges.last.fits) }

pub returns-in-Some-clause-of : goal.returns-in-Some-clause-of
returns-in-Some-clause-of g c =
    let pages = g.row.PAGES in
    let time = c.args.time in
    let steps = c.args.last - time in
    let stood = if_some _ c.args.self.now.at time c.requires.stands c.requires.of.stands in
    let bound : c.in-Some.steps ≤ steps = subst (λ (o : Option ℕ). unwrap_or o steps ≤ steps) c.in-Some.is c.visit-found.ensures.bound in record {
      stands =
          c.visit-found.ensures.state
          ∙ (ap (λ (o : Option ℕ). run pages c.window.result.now time c.args.self.now.live.state (unwrap_or o steps)) c.in-Some.is
          ∙ (ap₂ (λ (events : List LogEvent) (s : State). run pages events time s c.in-Some.steps) c.window.ensures.events stood
          ∙ gone_within pages c.args.inputs.now.image c.args.inputs.now.log time c.args.last c.in-Some.steps (omega (arith, bound, c.requires.before))));
      recorded = tt;
    }

pub returns-in-Some-clause-found : goal.returns-in-Some-clause-found
returns-in-Some-clause-found g c =
    let pages = g.row.PAGES in
    let image = c.args.inputs.now.image in
    let log = c.args.inputs.now.log in
    let time = c.args.time in
    let stood = if_some _ c.args.self.now.at time c.requires.stands c.requires.of.stands in
    ap (after_time time) (sym c.in-Some.is ∙ (c.visit-found.ensures.found
    ∙ ap₂ (λ (events : List LogEvent) (s : State). first_visit pages events time s c.args.address 0 (c.args.last - time)) c.window.ensures.events stood))
    ∙ (seen pages image log c.args.address time c.args.last 0 (c.args.last - time) (omega (arith, c.requires.before))
    ∙ ap (λ (t : ℕ). next_visit pages image log c.args.address t (c.args.last - time)) (let e : time + 0 ≡ time = omega arith in e))

pub returns-in-Some-clause-bound : goal.returns-in-Some-clause-bound
returns-in-Some-clause-bound g c =
    let steps = c.args.last - c.args.time in
    let bound : c.in-Some.steps ≤ steps = subst (λ (o : Option ℕ). unwrap_or o steps ≤ steps) c.in-Some.is c.visit-found.ensures.bound in
    omega (arith, bound, c.requires.before)

pub returns-in-None-clause-of : goal.returns-in-None-clause-of
returns-in-None-clause-of g c =
    let pages = g.row.PAGES in
    let time = c.args.time in
    let steps = c.args.last - time in
    let stood = if_some _ c.args.self.now.at time c.requires.stands c.requires.of.stands in record {
      stands =
          c.visit-found.ensures.state
          ∙ (ap (λ (o : Option ℕ). run pages c.window.result.now time c.args.self.now.live.state (unwrap_or o steps)) c.in-None.is
          ∙ (ap₂ (λ (events : List LogEvent) (s : State). run pages events time s steps) c.window.ensures.events stood
          ∙ gone_on pages c.args.inputs.now.image c.args.inputs.now.log time c.args.last c.requires.before));
      recorded = tt;
    }

pub returns-in-None-clause-found : goal.returns-in-None-clause-found
returns-in-None-clause-found g c =
    let pages = g.row.PAGES in
    let image = c.args.inputs.now.image in
    let log = c.args.inputs.now.log in
    let time = c.args.time in
    let stood = if_some _ c.args.self.now.at time c.requires.stands c.requires.of.stands in
    ap (after_time time) (sym c.in-None.is ∙ (c.visit-found.ensures.found
    ∙ ap₂ (λ (events : List LogEvent) (s : State). first_visit pages events time s c.args.address 0 (c.args.last - time)) c.window.ensures.events stood))
    ∙ (seen pages image log c.args.address time c.args.last 0 (c.args.last - time) (omega (arith, c.requires.before))
    ∙ ap (λ (t : ℕ). next_visit pages image log c.args.address t (c.args.last - time)) (let e : time + 0 ≡ time = omega arith in e))
