use Rattle.std.proofs.Common.{List, ℕ, rules, sym, subst, ◌∙◌}
use Rattle.wb_io.specs.Calls.{TakesFront}
use Rattle.wb_text.specs.Reply.{text_of}
use Rattle.workbench.specs.Taking.{LeadsTo}
use Rattle.wb_session.specs.Session.{triple_of}
use Rattle.workbench.proofs.script.answer_line.Goals as goal

pub returns-in-Ok : goal.returns-in-Ok
returns-in-Ok g c =
    let h = c.in-Ok.ensures in
    let bytes = c.as_slice.ensures.value ∙ c.reply_text-text.ensures in
    (h.0, h.1, (h.2.each, subst (λ (z : List ℕ). LeadsTo g.row.PAGES (triple_of c.args.session.now) c.args.line.now (triple_of c.answer_to.new.session) z) (sym (h.2.all ∙ bytes)) c.in-Reply.ensures))

pub returns-in-Err : goal.returns-in-Err
returns-in-Err g c =
    let h = c.in-Err.ensures in
    let bytes = c.as_slice.ensures.value ∙ c.reply_text-text.ensures in
    (h.0, h.1, (search rules, ((triple_of c.answer_to.new.session), text_of c.in-Reply.reply, c.in-Reply.ensures, subst (λ (z : List ℕ). TakesFront z h.0) bytes h.2)))
