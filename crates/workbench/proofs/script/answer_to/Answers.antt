use Rattle.std.proofs.Common.{Ok, ap, sym, ◌∙◌}
use Rattle.workbench.specs.Script.{says_quit}
use Rattle.workbench.proofs.Answers.{leads_by_command, leads_by_fault, leads_nowhere}
use Rattle.wb_session.specs.Session.{triple_of}
use Rattle.workbench.proofs.script.answer_to.Goals as goal

pub returns-in-Err : goal.returns-in-Err
returns-in-Err g c = leads_by_fault g.row.PAGES (triple_of c.args.session.now) c.args.line.now c.in-Err.fault (sym c.parse_line.ensures ∙ c.in-Err.is)

pub returns-in-Ok-None : goal.returns-in-Ok-None
returns-in-Ok-None g c =
    leads_nowhere g.row.PAGES (triple_of c.args.session.now) c.args.line.now (sym c.parse_line.ensures ∙ (c.in-Ok-None.is ∙ ap Ok c.in-Ok-None.field-0-is))

pub returns-then-is_quit : goal.returns-then-is_quit
returns-then-is_quit g c =
    ap says_quit (sym c.parse_line.ensures ∙ (c.in-Ok-Some.is ∙ ap Ok c.in-Ok-Some.field-0-is)) ∙ (sym c.is_quit.ensures ∙ c.if-is_quit.true)

pub returns-else-is_quit : goal.returns-else-is_quit
returns-else-is_quit g c =
    leads_by_command g.row.PAGES (triple_of c.args.session.now) (triple_of c.apply.new.self) c.args.line.now c.in-Ok-Some.command c.apply.result
    (sym c.parse_line.ensures ∙ (c.in-Ok-Some.is ∙ ap Ok c.in-Ok-Some.field-0-is)) (sym c.is_quit.ensures ∙ c.if-is_quit.false) c.apply.ensures.answers
