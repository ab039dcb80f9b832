use Rattle.std.proofs.Common.{[], inl, inr, refl, sym, rules}
use Rattle.std.proofs.lemmas.List.{append-nil}
use Rattle.wb_io.proofs.CallLemmas.{Reads-nil, Writes-nil}
use Rattle.workbench.specs.Serve.{Layout}
use Rattle.workbench.proofs.program.outcome_of.Goals as goal

pub returns-in-Err : goal.returns-in-Err
returns-in-Err g c = (
  [],
  [],
  Reads-nil (g.R.Source.reads c.args.input.now) (g.R.Source.left c.args.input.now),
  Writes-nil (g.W.Sink.writes c.args.output.now) (g.W.Sink.written c.args.output.now),
  rw c.in-Err.is (c.without_words.result, refl, c.without_words.ensures, refl, refl),
  [],
  sym (append-nil c.args.order.now),
  rw c.in-Err.is refl,
)

pub returns-in-Err-options : goal.returns-in-Err-options
returns-in-Err-options g c = (
  [],
  [],
  Reads-nil (g.R.Source.reads c.args.input.now) (g.R.Source.left c.args.input.now),
  Writes-nil (g.W.Sink.writes c.args.output.now) (g.W.Sink.written c.args.output.now),
  rw c.in-Ok.is (inr (c.in-Err-options.fault, search rules, c.in-Err-options.ensures.fault, refl, refl)),
  [],
  sym (append-nil c.args.order.now),
  rw c.in-Ok.is (inl refl),
)

pub returns-in-Ok-options : goal.returns-in-Ok-options
returns-in-Ok-options g c =
    let h = c.serve_in_order.ensures in
    let options = c.in-Ok-options.options in
    let layout : Layout = record { kind = options.kind; size = options.size; log_size = options.log_size } in
    (h.0, h.1, h.2, h.3, rw c.in-Ok.is (inl (layout, c.in-Ok-options.ensures.line, h.5)), h.6, h.7, rw c.in-Ok.is (inr (layout, c.in-Ok-options.ensures.line, h.8)))
