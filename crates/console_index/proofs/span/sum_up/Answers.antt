use Rattle.std.proofs.Common.{◌+◌, refl, ◌∙◌, arith}
use Rattle.std.proofs.lemmas.List.{length-set}
use Rattle.std.proofs.Math.Seq.{map-set_same}
use Rattle.console_index.specs.Totals.{counts_of}
use Rattle.console_index.specs.declared.span.Span.{Span}
use Rattle.console_index.proofs.Spans.{counts_at, no_span, put_next}
use Rattle.console_index.proofs.Sums.{total_next, total_small}
use Rattle.console_index.proofs.span.sum_up.Goals as goal

pub sums-requires : goal.sums-requires
sums-requires c = λ line l.
    let spans = c.loop-span.spans in
    let old = c.loop-span.invariant.spans in
    omega (arith, old.few, total_small (counts_of spans) line (c.loop-span.span + 1) (λ k. old.small k line l), total_next (counts_of spans) line c.loop-span.span, counts_at spans line c.loop-span.span, c.totals_below.ensures line l)

pub loop-span-preserved : goal.loop-span-preserved
loop-span-preserved c =
    let spans = c.loop-span.spans in
    let old = c.loop-span.invariant.spans in
    let same = map-set_same (λ (span : Span). span.counts) spans c.loop-span.span _ no_span refl in
    record {
      counts = same ∙ c.loop-span.invariant.counts;
      spans = record {
        few = omega (arith, old.few, length-set {A = Span});
        small = λ k line l. rw same (old.small k line l);
        within = omega (arith, length-set {A = Span});
        totals = put_next spans c.loop-span.span c.sums.result (omega arith) old.totals
            (λ line l. omega (arith, c.sums.ensures line l, c.totals_below.ensures line l, counts_at spans line c.loop-span.span));
      };
    }
