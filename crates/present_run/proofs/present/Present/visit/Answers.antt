use Rattle.std.proofs.Common.{◌≡◌, ℕ, ◌+◌, ◌-◌, ◌%◌, ◌<◌, ◌≤◌, List, Option, Some, None, unwrap_or, sym, ap, ◌∙◌, arith}
use Rattle.r3k_image.specs.Boot.{Boot}
use Rattle.input_log.specs.Event.{LogEvent}
use Rattle.r3k_machine.specs.Run.{next_visit}
use Rattle.present_run.specs.History.{History}
use Rattle.present_run.proofs.Pieces.{piece}
use Rattle.present_run.proofs.Spans.{or_after, visit_split, visit_end}
use Rattle.present_run.proofs.StaysOut.{none_within}
use Rattle.present_run.proofs.present.Present.visit.Goals as goal
use Rattle.present_run.proofs.Held.{stays_on}

-- a search goes on after a part of it
after_part : (pages : ℕ) (image : Boot) (log : List LogEvent) (address time to last : ℕ) (o : Option ℕ) → time < to → to ≤ last
    → next_visit pages image log address time (to - time) ≡ o
    → next_visit pages image log address time (last - time) ≡ or_after o (next_visit pages image log address to (last - to))
after_part pages image log address time to last o before within part =
    ap (next_visit pages image log address time) (let parts : last - time ≡ (to - time) + (last - to) = omega (arith, before, within) in parts)
    ∙ (visit_split pages image log address time (to - time) (last - to)
    ∙ (ap (λ (o : Option ℕ). or_after o (next_visit pages image log address (time + (to - time)) (last - to))) part
    ∙ ap (λ (t : ℕ). or_after o (next_visit pages image log address t (last - to))) (let e : time + (to - time) ≡ to = omega (arith, before) in e)))

pub returns-in-Some-clause-found : goal.returns-in-Some-clause-found
returns-in-Some-clause-found g c =
    let inputs = c.args.self.now.inputs in
    let time = c.loop-time.time in
    let to = c.min-to.result in
    let p = piece g.row.SPAN time c.args.last to c.args.self.now.of.records.sizes.least_span c.loop-time-test.true c.min-to.ensures in
    let stays = stays_on c.loop-time.invariant.stays c.go_in_span.ensures.stays in
    sym (c.loop-time.invariant.found
    ∙ after_part g.row.PAGES inputs.image inputs.log c.args.address time to c.args.last (Some c.in-Some.found) p.more p.most
    (sym (c.visit-found.ensures.found ∙ ap (λ (h : History). next_visit g.row.PAGES h.image h.log c.args.address time (to - time)) stays.history) ∙ c.in-Some.is))

pub loop-time-preserved-in_default : goal.loop-time-preserved-in_default
loop-time-preserved-in_default g c =
    let inputs = c.args.self.now.inputs in
    let time = c.loop-time.time in
    let to = c.min-to.result in
    let so_far = c.loop-time.invariant in
    let p = piece g.row.SPAN time c.args.last to c.args.self.now.of.records.sizes.least_span c.loop-time-test.true c.min-to.ensures in
    let stays = stays_on so_far.stays c.go_in_span.ensures.stays in
    let room = so_far.room c.loop-time-test.true in
    let count : c.visit-found.new.self.live.steps ≤ c.args.self.now.runs.machine.live.steps + (c.args.position % g.row.SPAN + (to - c.args.position)) =
    omega (arith, c.visit-found.ensures.count, c.go_in_span.ensures.count, p.into, p.more, room, so_far.after) in record {
      stays = record { history = stays.history; recent_states = stays.recent_states; pasts = stays.pasts };
      at = λ less elsewhere. absurd (elsewhere (c.visit-found.ensures.stands ∙ ap (λ (o : Option ℕ). Some (unwrap_or o to)) c.in_default.is));
      found =
          so_far.found
          ∙ after_part g.row.PAGES inputs.image inputs.log c.args.address time to c.args.last None p.more p.most
          (sym (c.visit-found.ensures.found ∙ ap (λ (h : History). next_visit g.row.PAGES h.image h.log c.args.address time (to - time)) stays.history) ∙ c.in_default.is);
      rows = c.go_in_span.ensures.rows ∙ so_far.rows;
      count = count;
      room = λ less. let start = p.whole less in omega (arith, count, start);
      least = omega (arith, c.visit-found.ensures.least, c.go_in_span.ensures.least, so_far.least);
      after = omega (arith, so_far.after, p.more);
      bound = p.most;
    }

pub loop-time-preserved : goal.loop-time-preserved
loop-time-preserved g c =
    let inputs = c.loop-time.self.inputs in
    let time = c.loop-time.time in
    let to = c.min-to.result in
    let so_far = c.loop-time.invariant in
    let p = piece g.row.SPAN time c.args.last to c.args.self.now.of.records.sizes.least_span c.loop-time-test.true c.min-to.ensures in
    let out = c.stays_out.ensures.0 c.if-not-stays_out.false in
    let count : c.loop-time.self.runs.machine.live.steps ≤ c.args.self.now.runs.machine.live.steps + (c.args.position % g.row.SPAN + (to - c.args.position)) =
    omega (arith, so_far.count, so_far.after, p.more) in record {
      stays = so_far.stays;
      at = λ less elsewhere. let next = p.next in omega (arith, next, out.0);
      found =
          so_far.found
          ∙ after_part g.row.PAGES c.args.self.now.inputs.image c.args.self.now.inputs.log c.args.address time to c.args.last None p.more p.most
          (sym (ap (λ (h : History). next_visit g.row.PAGES h.image h.log c.args.address time (to - time)) so_far.stays.history)
          ∙ none_within g.row.PAGES inputs.image inputs.log c.args.address _ g.row.SPAN time to out.1 p.low (omega (arith, p.more)) p.end);
      rows = so_far.rows;
      count = count;
      room = λ less. let start = p.whole less in omega (arith, count, start);
      least = so_far.least;
      after = omega (arith, so_far.after, p.more);
      bound = p.most;
    }

pub returns-clause-found : goal.returns-clause-found
returns-clause-found g c =
    let inputs = c.args.self.now.inputs in
    let end : c.loop-time.time ≡ c.args.last = omega (arith, c.loop-time-test.false, c.loop-time.invariant.bound) in
    sym (c.loop-time.invariant.found
    ∙ (ap (λ (t : ℕ). next_visit g.row.PAGES inputs.image inputs.log c.args.address t (c.args.last - t)) end
    ∙ visit_end g.row.PAGES inputs.image inputs.log c.args.address c.args.last))
