use Rattle.std.proofs.Common.{List, ◌∙◌}
use Rattle.std.proofs.Math.Path.{ap₂}
use Rattle.input_log.specs.Event.{LogEvent}
use Rattle.r3k_machine.specs.State.{State}
use Rattle.r3k_machine.specs.Step.{next}
use Rattle.r3k_machine.specs.Traced.{traced}
use Rattle.present_run.proofs.Spans.{if_some, one_on}
use Rattle.present_run.proofs.machine.Machine.follow_one.Goals as goal

pub returns-clause-of : goal.returns-clause-of
returns-clause-of g c =
    let stood = if_some _ c.args.self.now.at c.args.position c.requires.stands c.requires.of.stands in record {
      stands =
          c.follow-traced.ensures.state
          ∙ (ap₂ (λ (events : List LogEvent) (s : State). next g.row.PAGES events s) c.window-events.ensures.events stood
          ∙ one_on g.row.PAGES c.args.inputs.now.image c.args.inputs.now.log c.args.position);
      recorded = c.requires.of.recorded;
    }

pub returns-clause-traced : goal.returns-clause-traced
returns-clause-traced g c =
    let stood = if_some _ c.args.self.now.at c.args.position c.requires.stands c.requires.of.stands in
    c.follow-traced.ensures.traced
    ∙ ap₂ (λ (events : List LogEvent) (s : State). traced g.row.PAGES events s) c.window-events.ensures.events stood
