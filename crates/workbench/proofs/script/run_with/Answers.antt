use Rattle.std.proofs.Common.{[], sym, ap, subst, arith}
use Rattle.std.proofs.lemmas.List.{append-nil}
use Rattle.wb_io.specs.Calls.{Moment}
use Rattle.wb_io.proofs.CallLemmas.{Reads-nil, Writes-nil}
use Rattle.workbench.specs.Runs.{AnswersFirst}
use Rattle.workbench.proofs.Outcomes.{no_session, session_runs}
use Rattle.wb_session.specs.Session.{Triple, triple_of}
use Rattle.workbench.proofs.script.run_with.Goals as goal

pub returns-in-Err : goal.returns-in-Err
returns-in-Err g c = (
  [],
  [],
  Reads-nil (g.R.Source.reads c.args.reader.now) (g.R.Source.left c.args.reader.now),
  Writes-nil (g.W.Sink.writes c.args.writer.now) (g.W.Sink.written c.args.writer.now),
  omega arith,
  no_session (Unit {0}) g.row.PAGES c.args.most c.args.image c.args.log c.in-Err.refusal c.in-Err.ensures,
  [],
  sym (append-nil c.args.order.now),
  tt,
)

pub returns : goal.returns
returns g c =
    let h = c.run_script.ensures in
    let first : Moment = record { reads = g.R.Source.reads c.args.reader.now; writes = g.W.Sink.writes c.args.writer.now } in (
      h.0,
      h.1,
      h.2,
      h.3,
      h.4,
      session_runs g.row.PAGES c.args.most c.args.image c.args.log (triple_of c.in-Ok.session) c.run_script.result h.0 h.1 c.in-Ok.ensures.0 (ap triple_of c.in-Ok.ensures.1) h.5,
      h.6,
      h.7,
      subst (λ (t : Triple). AnswersFirst g.row.PAGES t first [] h.0 h.6) (ap triple_of c.in-Ok.ensures.1) h.8,
    )
