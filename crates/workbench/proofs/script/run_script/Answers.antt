use Rattle.std.proofs.Common.{◌≡◌, ℕ, ◌≤◌, inl, inr, List, [], ◌∷◌, ◌++◌, length, take, Some, Ok, Err, Result, refl, sym, ap, subst, arith, rules, length-append, length-take-le}
use Rattle.wb_io.specs.Calls.{Call, Moment, MovesSome, bytes_moved, call}
use Rattle.std.proofs.lemmas.List.{append-nil}
use Rattle.wb_io.specs.declared.source.Failed.{Failed}
use Rattle.wb_io.proofs.CallLemmas.{Each-append_one, Reads-end, Reads-failed, Reads-nil, Reads-some, Reads-trans, Writes-nil, Writes-trans}
use Rattle.wb_options.specs.declared.fault.RunFault.{RunFault}
use Rattle.workbench.specs.Runs.{IsPiece, ScriptRuns}
use Rattle.workbench.specs.Taking.{GoesOn}
use Rattle.workbench.proofs.Scripts.{goes_on_at_first}
use Rattle.workbench.proofs.Takes.{answered_so_far, answers_first-append_one, cut_written, end_runs, moments-append_one, no_quit_at_end, piece_quits, piece_stops, piece_taken}
use Rattle.wb_session.specs.Session.{triple_of}
use Rattle.workbench.proofs.script.run_script.Goals as goal

pub loop-made-init : goal.loop-made-init
loop-made-init g c = (
  [],
  [],
  Reads-nil (g.R.Source.reads c.args.reader.now) (g.R.Source.left c.args.reader.now),
  Writes-nil (g.W.Sink.writes c.args.writer.now) (g.W.Sink.written c.args.writer.now),
  tt,
  tt,
  subst (λ (z : List ℕ). GoesOn g.row.PAGES (triple_of c.args.session.now) [] (triple_of c.args.session.now) z []) (sym c.new-line.ensures) (goes_on_at_first g.row.PAGES (triple_of c.args.session.now)),
  refl,
  search rules,
  [],
  sym (append-nil c.args.order.now),
  tt,
)

pub returns-in-Err : goal.returns-in-Err
returns-in-Err g c =
    let h = c.loop-made.invariant in
    let w = c.in-Err.ensures {u = tt} in
    let piece = c.loop-made.piece in
    let answer : Result ℕ Failed = Err c.in-Err.field-0 in
    let one : Call = call (length piece) answer c.read.new.buffer in
    let first : Moment = record { reads = g.R.Source.reads c.args.reader.now; writes = g.W.Sink.writes c.args.writer.now } in
    let now : Moment = record { reads = g.R.Source.reads c.loop-made.reader; writes = g.W.Sink.writes c.loop-made.writer } in
    let in_order = answers_first-append_one g.row.PAGES (triple_of c.args.session.now) first now [] h.0 one h.9 h.11
    (answered_so_far g.row.PAGES (triple_of c.args.session.now) (triple_of c.loop-made.session) first now h.0 h.1 c.loop-made.line h.2.0 h.3.0 h.5 h.6) in
    let noted = moments-append_one c.args.order.now c.loop-made.order c.read.new.self h.9 now h.10 c.read.ensures.noted in
    let more = length-append h.0 (one ∷ []) in (
      h.0 ++ one ∷ [],
      h.1,
      Reads-trans _ _ _ _ _ _ h.0 (one ∷ []) h.2 (Reads-failed _ _ _ _ one w.called refl w.gives),
      h.3,
      omega (arith, more, h.7),
      (
        inl (record { pieces = h.0; last = one; reads_are = refl; each = h.4; asked = h.8; so = refl }),
        no_quit_at_end g.row.PAGES (triple_of c.args.session.now) (triple_of c.loop-made.session) h.0 h.1 one c.loop-made.line refl h.6,
        cut_written g.row.PAGES (triple_of c.args.session.now) (triple_of c.loop-made.session) h.0 h.1 one c.loop-made.line refl h.5 h.6,
      ),
      h.9 ++ now ∷ [],
      noted,
      in_order,
    )

pub returns-in-Ok-eq0 : goal.returns-in-Ok-eq0
returns-in-Ok-eq0 g c =
    let h = c.loop-made.invariant in
    let w = c.in-Ok-eq0.ensures {u = tt} in
    let v = c.end_script.ensures in
    let piece = c.loop-made.piece in
    let count = c.in-Ok-eq0.field-0 in
    let zero : count ≡ 0 = omega (arith, c.in-Ok-eq0.field-0-test) in
    let answer : Result ℕ Failed = Ok count in
    let one : Call = call (length piece) answer c.read.new.buffer in
    let none : take count c.read.new.buffer ≡ [] = ap (λ (n : ℕ). take n c.read.new.buffer) zero in
    let first : Moment = record { reads = g.R.Source.reads c.args.reader.now; writes = g.W.Sink.writes c.args.writer.now } in
    let now : Moment = record { reads = g.R.Source.reads c.loop-made.reader; writes = g.W.Sink.writes c.loop-made.writer } in
    let in_order = answers_first-append_one g.row.PAGES (triple_of c.args.session.now) first now [] h.0 one h.9 h.11
    (answered_so_far g.row.PAGES (triple_of c.args.session.now) (triple_of c.loop-made.session) first now h.0 h.1 c.loop-made.line h.2.0 h.3.0 h.5 h.6) in
    let noted = moments-append_one c.args.order.now c.loop-made.order c.read.new.self h.9 now h.10 c.read.ensures.noted in
    let more = length-append h.0 (one ∷ []) in (
      h.0 ++ one ∷ [],
      h.1 ++ v.0,
      Reads-trans _ _ _ _ _ _ h.0 (one ∷ []) h.2 (Reads-end _ _ _ _ one w.called w.gives (w.end zero)),
      Writes-trans _ _ _ _ _ _ h.1 v.0 h.3 v.1,
      omega (arith, more, h.7),
      end_runs g.row.PAGES c.args.most (triple_of c.args.session.now) (triple_of c.loop-made.session) c.end_script.result h.0 h.1 v.0 one c.loop-made.line h.4 h.8 (omega (arith, h.8)) (ap Some none) h.5 h.6 v.2,
      h.9 ++ now ∷ [],
      noted,
      in_order,
    )

pub returns-in-Err-take_piece : goal.returns-in-Err-take_piece
returns-in-Err-take_piece g c =
    let h = c.loop-made.invariant in
    let w = c.in-Ok.ensures {u = tt} in
    let v = c.in-Err-take_piece.ensures {u = tt} in
    let piece = c.loop-made.piece in
    let count = c.in-Ok.count in
    let answer : Result ℕ Failed = Ok count in
    let one : Call = call (length piece) answer c.read.new.buffer in
    let within : count ≤ length c.read.new.buffer = omega (arith, w.within, c.read.auto.buffer) in
    let some : MovesSome one = rw length-take-le (omega (arith, c.in-Ok.count-test)) in
    let first : Moment = record { reads = g.R.Source.reads c.args.reader.now; writes = g.W.Sink.writes c.args.writer.now } in
    let now : Moment = record { reads = g.R.Source.reads c.loop-made.reader; writes = g.W.Sink.writes c.loop-made.writer } in
    let in_order = answers_first-append_one g.row.PAGES (triple_of c.args.session.now) first now [] h.0 one h.9 h.11
    (answered_so_far g.row.PAGES (triple_of c.args.session.now) (triple_of c.loop-made.session) first now h.0 h.1 c.loop-made.line h.2.0 h.3.0 h.5 h.6) in
    let noted = moments-append_one c.args.order.now c.loop-made.order c.read.new.self h.9 now h.10 c.read.ensures.noted in
    let more = length-append h.0 (one ∷ []) in (
      h.0 ++ one ∷ [],
      h.1 ++ v.0,
      Reads-trans _ _ _ _ _ _ h.0 (one ∷ []) h.2 (Reads-some _ _ _ _ one w.called w.gives some),
      Writes-trans _ _ _ _ _ _ h.1 v.0 h.3 v.1,
      omega (arith, more, h.7),
      subst (λ (z : RunFault). ScriptRuns {T = Unit {0}} g.row.PAGES c.args.most (triple_of c.args.session.now) (Err z) (h.0 ++ one ∷ []) (h.1 ++ v.0)) (sym v.2.0)
          (inr (record { pieces = h.0; last = one; reads_are = refl; each = Each-append_one IsPiece h.0 one h.4 (h.8, some); no_quit = h.6.no_quit }, piece_stops g.row.PAGES (triple_of c.args.session.now) (triple_of c.loop-made.session) h.0 h.1 v.0 one c.loop-made.line h.5 h.6 v.2.1)),
      h.9 ++ now ∷ [],
      noted,
      in_order,
    )

pub returns-then-quits : goal.returns-then-quits
returns-then-quits g c =
    let h = c.loop-made.invariant in
    let w = c.in-Ok.ensures {u = tt} in
    let v = c.in-Ok-take_piece.ensures {u = tt} in
    let piece = c.loop-made.piece in
    let count = c.in-Ok.count in
    let answer : Result ℕ Failed = Ok count in
    let one : Call = call (length piece) answer c.read.new.buffer in
    let within : count ≤ length c.read.new.buffer = omega (arith, w.within, c.read.auto.buffer) in
    let some : MovesSome one = rw length-take-le (omega (arith, c.in-Ok.count-test)) in
    let first : Moment = record { reads = g.R.Source.reads c.args.reader.now; writes = g.W.Sink.writes c.args.writer.now } in
    let now : Moment = record { reads = g.R.Source.reads c.loop-made.reader; writes = g.W.Sink.writes c.loop-made.writer } in
    let in_order = answers_first-append_one g.row.PAGES (triple_of c.args.session.now) first now [] h.0 one h.9 h.11
    (answered_so_far g.row.PAGES (triple_of c.args.session.now) (triple_of c.loop-made.session) first now h.0 h.1 c.loop-made.line h.2.0 h.3.0 h.5 h.6) in
    let noted = moments-append_one c.args.order.now c.loop-made.order c.read.new.self h.9 now h.10 c.read.ensures.noted in
    let more = length-append h.0 (one ∷ []) in
    let all = piece_quits g.row.PAGES (triple_of c.args.session.now) (triple_of c.loop-made.session) (triple_of c.take_piece.new.session) h.0 h.1 v.0 one c.loop-made.line c.take_piece.new.line c.in-Ok-take_piece.quits c.if-quits.true h.5 h.6 v.2 in (
      h.0 ++ one ∷ [],
      h.1 ++ v.0,
      Reads-trans _ _ _ _ _ _ h.0 (one ∷ []) h.2 (Reads-some _ _ _ _ one w.called w.gives some),
      Writes-trans _ _ _ _ _ _ h.1 v.0 h.3 v.1,
      omega (arith, more, h.7),
      (inr (record { pieces = h.0; last = one; reads_are = refl; each = Each-append_one IsPiece h.0 one h.4 (h.8, some); no_quit = h.6.no_quit }, all.0), all.1),
      h.9 ++ now ∷ [],
      noted,
      in_order,
    )

pub loop-made-preserved : goal.loop-made-preserved
loop-made-preserved g c =
    let h = c.loop-made.invariant in
    let w = c.in-Ok.ensures {u = tt} in
    let v = c.in-Ok-take_piece.ensures {u = tt} in
    let piece = c.loop-made.piece in
    let count = c.in-Ok.count in
    let answer : Result ℕ Failed = Ok count in
    let one : Call = call (length piece) answer c.read.new.buffer in
    let within : count ≤ length c.read.new.buffer = omega (arith, w.within, c.read.auto.buffer) in
    let some : MovesSome one = rw length-take-le (omega (arith, c.in-Ok.count-test)) in
    let first : Moment = record { reads = g.R.Source.reads c.args.reader.now; writes = g.W.Sink.writes c.args.writer.now } in
    let now : Moment = record { reads = g.R.Source.reads c.loop-made.reader; writes = g.W.Sink.writes c.loop-made.writer } in
    let in_order = answers_first-append_one g.row.PAGES (triple_of c.args.session.now) first now [] h.0 one h.9 h.11
    (answered_so_far g.row.PAGES (triple_of c.args.session.now) (triple_of c.loop-made.session) first now h.0 h.1 c.loop-made.line h.2.0 h.3.0 h.5 h.6) in
    let noted = moments-append_one c.args.order.now c.loop-made.order c.read.new.self h.9 now h.10 c.read.ensures.noted in
    let more = length-append h.0 (one ∷ []) in
    let all = piece_taken g.row.PAGES (triple_of c.args.session.now) (triple_of c.loop-made.session) (triple_of c.take_piece.new.session) h.0 h.1 v.0 one c.loop-made.line c.take_piece.new.line c.in-Ok-take_piece.quits c.if-quits.false h.5 h.6 v.2 in (
      h.0 ++ one ∷ [],
      h.1 ++ v.0,
      Reads-trans _ _ _ _ _ _ h.0 (one ∷ []) h.2 (Reads-some _ _ _ _ one w.called w.gives some),
      Writes-trans _ _ _ _ _ _ h.1 v.0 h.3 v.1,
      Each-append_one IsPiece h.0 one h.4 (h.8, some),
      all.0,
      all.1,
      omega (arith, more, h.7),
      omega (arith, h.8, c.read.auto.buffer),
      h.9 ++ now ∷ [],
      noted,
      in_order,
    )

pub returns : goal.returns
returns g c =
    let h = c.loop-made.invariant in
    let all : length h.0 ≡ c.args.most = omega arith in
    (h.0, h.1, h.2, h.3, omega arith, (inr (h.4, all), h.6.no_quit, (bytes_moved h.1, h.6.complete_text, record { each = h.5; all = refl })), h.9, h.10, h.11)
