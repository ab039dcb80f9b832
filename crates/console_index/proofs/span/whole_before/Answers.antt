use Rattle.std.proofs.Common.{rules, ◌+◌, ◌<◌, ◌≤◌, leb, slice_index, subst, arith}
use Rattle.std.proofs.lemmas.List.Sorted.{IsPartitionPoint-from_clause, IsPartitionedBy-leb}
use Rattle.std.proofs.lemmas.Bool.{leb-false, leb-true}
use Rattle.console_index.specs.Counts.{total}
use Rattle.console_index.specs.Totals.{counts_of}
use Rattle.console_index.specs.declared.span.Span.{Span}
use Rattle.console_index.proofs.Spans.{no_span, passed, totals_at, totals_rise}
use Rattle.console_index.proofs.span.whole_before.Goals as goal

pub returns : goal.returns
returns c =
    let line = c.index-line.result in
    let small : line ≤ 3 = omega arith in
    let spans = c.args.spans.now in
    let whole = c.partition_point.result in
    let totals = λ (span : Span). slice_index span.totals line in
    let point = IsPartitionPoint-from_clause (λ span. leb (totals span) c.args.place) spans whole c.partition_point.ensures.partitioned
    (IsPartitionedBy-leb totals spans c.args.place (totals_rise spans c.requires line small)) (λ a r f k. search rules) in
    record {
      passed = c.partition_point.ensures.bound;
      before = subst (λ line. total (counts_of spans) line whole ≤ c.args.place) c.index-line.ensures.value
          (passed spans line c.args.place whole small c.partition_point.ensures.bound c.requires (λ k below. leb-true _ _ (point.0 k no_span (omega arith) below)));
      within = λ inside. subst (λ line. c.args.place < total (counts_of spans) line (whole + 1)) c.index-line.ensures.value
          (omega (arith, leb-false _ _ (point.1 whole no_span (omega arith) inside), totals_at spans line whole, c.requires whole inside line small));
    }
