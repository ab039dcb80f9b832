use Rattle.std.proofs.Common.{ℕ, ◌*◌, List, sym, ap, subst, ◌∙◌}
use Rattle.input_log.specs.Event.{LogEvent}
use Rattle.r3k_machine.specs.Run.{run, trace}
use Rattle.r3k_machine.specs.State.{State}
use Rattle.r3k_pages.specs.Pages.{SameOutside}
use Rattle.r3k_live.specs.Marks.{marks_of}
use Rattle.r3k_live.specs.Record.{AreDestinations, AreWriters, dirty_pages, sent_from, touched_pages}
use Rattle.span_fact.specs.Span.{Holds}
use Rattle.span_fact.proofs.CodePages.{from_none}
use Rattle.span_fact.proofs.fact.Fact.make.Goals as goal

pub invariant_of-result : goal.invariant_of-result
invariant_of-result g c =
    let pages = g.row.PAGES in
    let span = g.row.SPAN in
    let index = c.args.index in
    let from = index * span in
    let events = c.args.events.now in
    let begun = c.args.live.now.state in
    let steps = trace pages events from begun span in
    let here = c.requires.stands in
    let ends = (c.in_ok-keep.ensures {u = tt}).kept in
    let stored = (c.in_ok-dirty.ensures {u = tt}).pages steps c.run.ensures.recorded in
    let recorded = c.run.ensures.recorded in
    subst (λ (kept : List LogEvent). Holds pages span (record { index = index; start = c.args.start.value; events = kept })
    c.in_ok-keep.field-0.value c.in_ok-writers.field-0.items c.destinations.result c.in_ok-from_slice-2.field-0.items c.in_ok-dirty.field-0.items c.in_ok-marks.field-0.items c.in_ok-touched.field-0.items c.in_ok-from_slice-3.field-0.items)
    (sym (c.in_ok-from_slice.ensures {u = tt}).items)
    (record {
      in_order = c.requires.in_order;
      within = c.requires.within;
      ends = ends ∙ (c.run.ensures.state ∙ ap (λ (s : State). run pages events from s span) here);
      written = subst (λ (s : State). AreWriters pages (trace pages events from s span) c.in_ok-writers.field-0.items) here (c.in_ok-writers.ensures {u = tt} steps recorded);
      destined = subst (λ (s : State). AreDestinations (trace pages events from s span) c.destinations.result) here (c.destinations.ensures steps recorded);
      report = (c.in_ok-from_slice-2.ensures {u = tt}).items ∙ (c.sent.ensures.sent steps recorded ∙ ap (λ (s : State). sent_from 0 (trace pages events from s span)) here);
      stayed =
          subst (λ (set : List ℕ). SameOutside set c.args.start.value.words c.in_ok-keep.field-0.value.words) (sym stored)
          (subst (λ (s : State). SameOutside (dirty_pages pages steps) s.words c.in_ok-keep.field-0.value.words) here
          (subst (λ (e : State). SameOutside (dirty_pages pages steps) begun.words e.words) (sym ends) c.run.ensures.dirty));
      marked = (c.in_ok-marks.ensures {u = tt}).marks steps recorded ∙ ap (λ (s : State). marks_of pages (trace pages events from s span)) here;
      ascending = (c.in_ok-marks.ensures {u = tt}).ascending steps recorded;
      stored = stored ∙ ap (λ (s : State). dirty_pages pages (trace pages events from s span)) here;
      seen = (c.in_ok-touched.ensures {u = tt}).pages steps recorded ∙ ap (λ (s : State). touched_pages pages (trace pages events from s span)) here;
      stands =
          from_none pages events from begun c.args.start.value span c.clear.new.self.code_pages c.run.new.recorder.code_pages c.in_ok-from_slice-3.field-0.items
          c.run.ensures.code_pages c.clear.ensures.code_pages ((c.in_ok-from_slice-3.ensures {u = tt}).items ∙ c.code_pages.ensures) here;
    })
