use Rattle.std.proofs.Common.{◌≡◌, ℕ, ◌+◌, ◌*◌, ◌≤◌, ◌++◌, List, length, sym, ap, subst, ◌∙◌, arith}
use Rattle.std.proofs.Math.Nat.{mul-le-mul_right}
use Rattle.r3k_live.specs.declared.recorder.SentAt.{SentAt}
use Rattle.r3k_machine.specs.Run.{console_of, trace_at}
use Rattle.present_run.specs.Sent.{bytes_on}
use Rattle.present_run.specs.Console.{Shows, part_of}
use Rattle.present_run.specs.Runs.{steps_between}
use Rattle.present_run.proofs.Consoles.{part_short}
use Rattle.present_run.proofs.Joined.{few_at, later_sender, shown_enough, shows_next}
use Rattle.present_run.proofs.Sending.{few_sent}
use Rattle.present_run.proofs.Reports.{between_count, console_front, up_to_next}
use Rattle.present_run.proofs.present.Present.shown_before.Goals as goal
use Rattle.present_run.proofs.present.Present.shown_before.Goals.{then-loop-index-test+else-len-count, else-loop-index-test}

pub take_of-requires-clause-room : goal.take_of-requires-clause-room
take_of-requires-clause-room g c =
    let pages = g.row.PAGES in
    let span = g.row.SPAN in
    let image = c.args.self.now.inputs.image in
    let log = c.args.self.now.inputs.log in
    let index = c.loop-index.index in
    let bound : (index + 1) * span ≤ c.args.spans * span = mul-le-mul_right span (omega (arith, c.loop-index-test.true)) in
    omega (
      arith,
      c.loop-index.invariant.shown.0,
      few_at pages span image log c.args.line index,
      few_sent 0 (steps_between pages image log (index * span) ((index + 1) * span)),
      between_count pages image log (index * span) ((index + 1) * span),
      ap (λ (s : List SentAt). length s) c.sent_in.ensures,
      bound,
      c.requires.near,
    )

pub loop-index-smaller : goal.loop-index-smaller
loop-index-smaller g c =
    let pages = g.row.PAGES in
    let span = g.row.SPAN in
    let image = c.args.self.now.inputs.image in
    let log = c.args.self.now.inputs.log in
    let line = c.args.line in
    let index = c.loop-index.index in
    let next = c.sending_span-index-in-loop-index.result in
    let shows = subst (λ (bytes : List ℕ). Shows c.args.from c.args.count bytes c.take_of.new.self)
    (ap (λ (s : List SentAt). console_of line (trace_at pages image log (index * span)) ++ bytes_on line s) c.sent_in.ensures
    ∙ console_front pages image log line (index * span) ((index + 1) * span) (up_to_next index span))
    (c.take_of.ensures.shows (console_of line (trace_at pages image log (index * span))) c.loop-index.invariant.shown) in
    let later : index + 1 ≤ next =
    later_sender pages span image log line index next c.args.spans c.take_of.new.self.total c.loop-index-test.true shows.0 c.sending_span-index-in-loop-index.ensures.to in
    omega (arith, later, c.loop-index-test.true, c.sending_span-index-in-loop-index.ensures.within)

pub loop-index-init : goal.loop-index-init
loop-index-init g c = record {
  shown = (c.count_of.ensures, c.new.ensures ∙ sym (part_short c.args.from c.args.count _ c.sending_span-index.ensures.from));
  within = c.sending_span-index.ensures.within;
}

pub loop-index-preserved : goal.loop-index-preserved
loop-index-preserved g c =
    let pages = g.row.PAGES in
    let span = g.row.SPAN in
    let image = c.args.self.now.inputs.image in
    let log = c.args.self.now.inputs.log in
    let line = c.args.line in
    let index = c.loop-index.index in
    let next = c.sending_span-index-in-loop-index.result in
    let shows = subst (λ (bytes : List ℕ). Shows c.args.from c.args.count bytes c.take_of.new.self)
    (ap (λ (s : List SentAt). console_of line (trace_at pages image log (index * span)) ++ bytes_on line s) c.sent_in.ensures
    ∙ console_front pages image log line (index * span) ((index + 1) * span) (up_to_next index span))
    (c.take_of.ensures.shows (console_of line (trace_at pages image log (index * span))) c.loop-index.invariant.shown) in
    let later : index + 1 ≤ next =
    later_sender pages span image log line index next c.args.spans c.take_of.new.self.total c.loop-index-test.true shows.0 c.sending_span-index-in-loop-index.ensures.to in record {
      shown = shows_next pages span image log line c.args.from c.args.count index next c.take_of.new.self later c.sending_span-index-in-loop-index.ensures.from shows;
      within = c.sending_span-index-in-loop-index.ensures.within;
    }

pub returns-clause-shown : goal.returns-clause-shown
returns-clause-shown g c =
    let pages = g.row.PAGES in
    let span = g.row.SPAN in
    let image = c.args.self.now.inputs.image in
    let log = c.args.self.now.inputs.log in
    let index = c.loop-index.index in
    let bytes = c.loop-index.shown.bytes.items in
    let is = c.loop-index.invariant.shown.1 in (
      c.count_of-2.ensures,
      elim c.loop-index-test.branch [
        | then-loop-index-test+else-len-count w ↦
            shown_enough pages image log c.args.line c.args.from c.args.count (index * span) (c.args.spans * span) bytes (mul-le-mul_right span c.loop-index.invariant.within) is
            (omega (arith, w.len.ensures.value, w.if-len-count))
        | else-loop-index-test w ↦
            let same : index ≡ c.args.spans = omega (arith, w.loop-index-test, c.loop-index.invariant.within) in
            is ∙ ap (λ (n : ℕ). part_of c.args.from c.args.count (console_of c.args.line (trace_at pages image log (n * span)))) same
      ],
    )

pub returns-clause-few : goal.returns-clause-few
returns-clause-few g c =
    omega (arith, c.count_of-2.ensures, few_at g.row.PAGES g.row.SPAN c.args.self.now.inputs.image c.args.self.now.inputs.log c.args.line c.args.spans)
