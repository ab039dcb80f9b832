use Rattle.std.proofs.Common.{[], ◌++◌, refl, sym, subst, List, ℕ, get_or}
use Rattle.std.proofs.lemmas.List.{append-nil}
use Rattle.wb_io.proofs.CallLemmas.{Writes-nil, Writes-trans}
use Rattle.workbench.specs.Taking.{GoesOn}
use Rattle.workbench.proofs.Scripts.{goes_on_with_byte}
use Rattle.workbench.proofs.Takes.{byte_quits, byte_stops, byte_taken}
use Rattle.wb_session.specs.Session.{triple_of}
use Rattle.workbench.proofs.script.take_piece.Goals as goal

pub loop-byte-init : goal.loop-byte-init
loop-byte-init g c = (
  [],
  Writes-nil (g.W.Sink.writes c.args.writer.now) (g.W.Sink.written c.args.writer.now),
  tt,
  subst (λ (z : List ℕ). GoesOn g.row.PAGES (triple_of c.args.session.now) z (triple_of c.args.session.now) c.args.line.now []) (sym (append-nil c.args.line.now))
      (goes_on_with_byte g.row.PAGES (triple_of c.args.session.now) c.args.line.now c.requires),
)

pub returns-in-Err : goal.returns-in-Err
returns-in-Err g c =
    let h = c.loop-byte.invariant in
    let w = c.in-Err.ensures {u = tt} in (
      h.0 ++ w.0,
      Writes-trans _ _ _ _ _ _ h.0 w.0 h.1 w.1,
      (w.2.0, byte_stops g.row.PAGES (triple_of c.args.session.now) (triple_of c.loop-byte.session) c.args.line.now c.args.piece.now c.loop-byte.byte-index (get_or c.args.piece.now c.loop-byte.byte-index 0) c.loop-byte.line h.0 w.0 c.loop-byte-test.true refl h.2 h.3 w.2.1),
    )

pub returns-then-quits : goal.returns-then-quits
returns-then-quits g c =
    let h = c.loop-byte.invariant in
    let w = c.in-Ok.ensures {u = tt} in (
      h.0 ++ w.0,
      Writes-trans _ _ _ _ _ _ h.0 w.0 h.1 w.1,
      byte_quits g.row.PAGES (triple_of c.args.session.now) (triple_of c.loop-byte.session) (triple_of c.take_byte.new.session) c.args.line.now c.args.piece.now c.loop-byte.byte-index (get_or c.args.piece.now c.loop-byte.byte-index 0) c.loop-byte.line c.take_byte.new.line h.0 w.0 c.in-Ok.quits c.if-quits.true c.loop-byte-test.true refl h.2 h.3 w.2,
    )

pub loop-byte-preserved : goal.loop-byte-preserved
loop-byte-preserved g c =
    let h = c.loop-byte.invariant in
    let w = c.in-Ok.ensures {u = tt} in
    let all = byte_taken g.row.PAGES (triple_of c.args.session.now) (triple_of c.loop-byte.session) (triple_of c.take_byte.new.session) c.args.line.now c.args.piece.now c.loop-byte.byte-index (get_or c.args.piece.now c.loop-byte.byte-index 0) c.loop-byte.line c.take_byte.new.line h.0 w.0 c.in-Ok.quits c.if-quits.false c.loop-byte-test.true refl h.2 h.3 w.2 in (
      h.0 ++ w.0,
      Writes-trans _ _ _ _ _ _ h.0 w.0 h.1 w.1,
      all.0,
      all.1,
    )
