use Rattle.std.proofs.Common.{ℕ, ◌*◌, ◌++◌, List, ap, subst, ◌∙◌}
use Rattle.r3k_live.specs.declared.recorder.SentAt.{SentAt}
use Rattle.r3k_machine.specs.Run.{console_of, trace_at}
use Rattle.present_run.specs.Console.{Shows}
use Rattle.present_run.specs.Sent.{bytes_on}
use Rattle.present_run.proofs.Reports.{console_front}
use Rattle.present_run.proofs.present.Present.console.Goals as goal

pub returns-clause-shown : goal.returns-clause-shown
returns-clause-shown g c =
    let inputs = c.record.new.self.inputs in
    let recorded = c.in_ok-index.ensures {u = tt} in
    let from = c.in_ok-index.index * g.row.SPAN in
    let console = console_of c.args.line (trace_at g.row.PAGES inputs.image inputs.log from) in
    subst (λ (bytes : List ℕ). Shows c.args.from c.args.count bytes c.take_of.new.self)
    (ap (λ (s : List SentAt). console ++ bytes_on c.args.line s) (c.sent.ensures.sent _ recorded.recorded) ∙ console_front g.row.PAGES inputs.image inputs.log c.args.line from c.args.position recorded.before)
    (c.take_of.ensures.shows console c.shown_before-shown.ensures.shown)
