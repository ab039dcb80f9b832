use Rattle.std.proofs.Common.{◌-◌, List, ◌∙◌, subst}
use Rattle.std.proofs.Math.Path.{ap₂}
use Rattle.input_log.specs.Event.{LogEvent}
use Rattle.r3k_machine.specs.declared.step.Done.{Done}
use Rattle.r3k_machine.specs.State.{State}
use Rattle.r3k_machine.specs.Run.{run}
use Rattle.r3k_live.specs.Recording.{Records}
use Rattle.present_run.proofs.Spans.{gone_on, if_some}
use Rattle.present_run.proofs.Reports.{own_steps}
use Rattle.present_run.proofs.machine.Machine.go_on.Goals as goal

pub returns-clause-of : goal.returns-clause-of
returns-clause-of g c =
    let pages = g.row.PAGES in
    let time = c.args.time in
    let position = c.args.position in
    let stood = if_some _ c.args.self.now.at time c.requires.stands c.requires.of.stands in record {
      stands =
          c.run.ensures.state
          ∙ (ap₂ (λ (events : List LogEvent) (s : State). run pages events time s (position - time)) c.window.ensures.events stood
          ∙ gone_on pages c.args.inputs.now.image c.args.inputs.now.log time position c.requires.before);
      recorded = tt;
    }

pub returns-clause-recorded : goal.returns-clause-recorded
returns-clause-recorded g c =
    let pages = g.row.PAGES in
    let time = c.args.time in
    let stood = if_some _ c.args.self.now.at time c.requires.stands c.requires.of.stands in
    subst (λ (steps : List Done). Records pages steps c.run.new.recorder)
    (own_steps pages c.args.inputs.now.image c.args.inputs.now.log c.window.result.now c.args.self.now.live.state time c.args.position c.requires.before c.window.ensures.events stood)
    c.run.ensures.recorded
