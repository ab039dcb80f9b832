use Rattle.std.proofs.Common.{List, ℕ, [], subst}
use Rattle.wb_io.proofs.CallLemmas.{Writes-nil}
use Rattle.workbench.specs.LineBuffer.{HasNoFeed}
use Rattle.workbench.specs.Taking.{Answered, Unanswered}
use Rattle.workbench.proofs.Takes.{kept_or_dropped, stopped_line, took_line}
use Rattle.wb_session.specs.Session.{triple_of}
use Rattle.workbench.proofs.script.take_byte.Goals as goal

pub returns-then-byte-ne10 : goal.returns-then-byte-ne10
returns-then-byte-ne10 g c = (
  [],
  Writes-nil (g.W.Sink.writes c.args.writer.now) (g.W.Sink.written c.args.writer.now),
  (tt, kept_or_dropped g.row.PAGES (triple_of c.args.session.now) c.args.line.now c.push.new.self c.args.byte c.push.ensures.no_feed c.if-byte-ne10.true c.push.ensures.kept),
)

pub returns-in-Ok : goal.returns-in-Ok
returns-in-Ok g c =
    let h = c.in-Ok.ensures in (
      h.0,
      h.1,
      took_line g.row.PAGES (triple_of c.args.session.now) (triple_of c.answer_line.new.session) c.args.line.now c.clear.new.self c.args.byte h.0 c.in-Ok.quits
          (subst HasNoFeed c.bytes.ensures.kept c.bytes.ensures.no_feed) c.if-byte-ne10.false c.clear.ensures
          (subst (λ (line : List ℕ). Answered g.row.PAGES (triple_of c.args.session.now) line (triple_of c.answer_line.new.session) h.0 c.in-Ok.quits) c.bytes.ensures.kept h.2),
    )

pub returns-in-Err : goal.returns-in-Err
returns-in-Err g c =
    let h = c.in-Err.ensures in (
      h.0,
      h.1,
      (
        h.2.0,
        stopped_line g.row.PAGES (triple_of c.args.session.now) c.args.line.now c.args.byte h.0
            (subst HasNoFeed c.bytes.ensures.kept c.bytes.ensures.no_feed) c.if-byte-ne10.false
            (subst (λ (line : List ℕ). Unanswered g.row.PAGES (triple_of c.args.session.now) line h.0) c.bytes.ensures.kept h.2.1),
      ),
    )
