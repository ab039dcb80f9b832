use Rattle.std.proofs.Common.{[], ◌++◌, ◌≡◌, ◌-◌, inl, length, List, ℕ, Ok, Err, take, drop, refl, sym, ap, subst, arith, length-append, ◌∙◌}
use Rattle.std.proofs.lemmas.List.{append-nil}
use Rattle.r3k_image.specs.Boot.{Boot}
use Rattle.input_log.specs.Event.{LogEvent}
use Rattle.wb_io.specs.Calls.{Call, Moment}
use Rattle.wb_io.proofs.CallLemmas.{Reads-trans, Writes-nil}
use Rattle.workbench.specs.Runs.{AnswersFirst, max_reads}
use Rattle.workbench.specs.Serve.{Layout, Makes, image_of, log_of}
use Rattle.workbench.proofs.Outcomes.{front_fault_serves, no_image_serves, no_log_serves, run_serves, run_serves_in_order}
use Rattle.workbench.proofs.serving.serve_in_order.Goals as goal

pub returns-in-Err : goal.returns-in-Err
returns-in-Err g c =
    let layout : Layout = record { kind = c.args.options.kind; size = c.args.options.size; log_size = c.args.options.log_size } in
    let h = c.in-Err.ensures in
    (h.0, [], h.1, Writes-nil (g.W.Sink.writes c.args.writer.now) (g.W.Sink.written c.args.writer.now), h.2, front_fault_serves (Unit {0}) g.row.PAGES layout c.in-Err.fault h.0 h.3, [], sym (append-nil c.args.order.now), inl refl)

pub returns-in-Err-image_of : goal.returns-in-Err-image_of
returns-in-Err-image_of g c =
    let layout : Layout = record { kind = c.args.options.kind; size = c.args.options.size; log_size = c.args.options.log_size } in
    let f = c.in-Ok.ensures in
    let bytes = c.split_at.ensures.front ∙ ap (λ (z : List ℕ). take c.args.options.size z) (c.deref.ensures.value ∙ f.3.1) in
    let fault = c.in-Err-image_of.refusal in
    let none = c.in-Err-image_of.ensures {u = tt} in (
      f.0,
      [],
      f.1,
      Writes-nil (g.W.Sink.writes c.args.writer.now) (g.W.Sink.written c.args.writer.now),
      f.2,
      no_image_serves (Unit {0}) g.row.PAGES layout fault f.0 f.3.0 none.judged
          (subst (λ (z : List ℕ). Makes {A = Boot} (Err fault) (image_of c.args.options.kind z)) bytes none.made),
      [],
      sym (append-nil c.args.order.now),
      inl refl,
    )

pub returns-in-Err-log_of : goal.returns-in-Err-log_of
returns-in-Err-log_of g c =
    let layout : Layout = record { kind = c.args.options.kind; size = c.args.options.size; log_size = c.args.options.log_size } in
    let f = c.in-Ok.ensures in
    let all = c.deref.ensures.value ∙ f.3.1 in
    let bytes = c.split_at.ensures.front ∙ ap (λ (z : List ℕ). take c.args.options.size z) all in
    let rest = c.split_at.ensures.back ∙ ap (λ (z : List ℕ). drop c.args.options.size z) all in
    let image = c.in-Ok-image_of.image in
    let fault = c.in-Err-log_of.fault in
    let made = c.in-Ok-image_of.ensures {u = tt} in
    let none = c.in-Err-log_of.ensures {u = tt} in (
      f.0,
      [],
      f.1,
      Writes-nil (g.W.Sink.writes c.args.writer.now) (g.W.Sink.written c.args.writer.now),
      f.2,
      no_log_serves (Unit {0}) g.row.PAGES layout fault f.0 f.3.0 none.judged image
          (subst (λ (z : List ℕ). image_of c.args.options.kind z ≡ Ok image) bytes made.made)
          (subst (λ (z : List ℕ). Makes {A = List LogEvent} (Err fault) (log_of z)) rest none.made),
      [],
      sym (append-nil c.args.order.now),
      inl refl,
    )

pub returns : goal.returns
returns g c =
    let layout : Layout = record { kind = c.args.options.kind; size = c.args.options.size; log_size = c.args.options.log_size } in
    let f = c.in-Ok.ensures in
    let h = c.run_with.ensures in
    let more = length-append f.0 h.0 in
    let all = c.deref.ensures.value ∙ f.3.1 in
    let bytes = c.split_at.ensures.front ∙ ap (λ (z : List ℕ). take c.args.options.size z) all in
    let rest = c.split_at.ensures.back ∙ ap (λ (z : List ℕ). drop c.args.options.size z) all in
    let image = c.in-Ok-image_of.image in
    let log = c.in-Ok-log_of.log in
    let made = c.in-Ok-image_of.ensures {u = tt} in
    let logged = c.in-Ok-log_of.ensures {u = tt} in
    let image_is = subst (λ (z : List ℕ). image_of c.args.options.kind z ≡ Ok image) bytes made.made in
    let log_is = subst (λ (z : List ℕ). log_of z ≡ Ok log) rest logged.made in
    let left : c.in-Ok.front.reads_left ≡ max_reads - length f.0 = omega (arith, f.3.2) in
    let first : Moment = record { reads = g.R.Source.reads c.args.reader.now; writes = g.W.Sink.writes c.args.writer.now } in (
      f.0 ++ h.0,
      h.1,
      Reads-trans _ _ _ _ _ _ f.0 h.0 f.1 h.2,
      h.3,
      omega (arith, more, f.3.2, h.4),
      run_serves g.row.PAGES c.in-Ok.front.reads_left layout image log c.run_with.result f.0 h.0 h.1 f.3.0 image_is log_is left h.5,
      h.6,
      h.7,
      run_serves_in_order g.row.PAGES c.in-Ok.front.reads_left layout image log c.run_with.result f.0 h.0 h.1 f.3.0 image_is log_is left h.5 first h.6
          (subst (λ (z : List Call). AnswersFirst g.row.PAGES (record { image = image; log = log; position = 0 }) (record { reads = z; writes = g.W.Sink.writes c.args.writer.now }) [] h.0 h.6) f.1.0 h.8),
    )
