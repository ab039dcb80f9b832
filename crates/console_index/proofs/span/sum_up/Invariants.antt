use Rattle.std.proofs.Common.{◌≡◌}
use Rattle.console_index.specs.Totals.{IsIndex, counts_of}
use Rattle.console_index.proofs.span.sum_up.Given as goal

abbrev pub invariant-loop-span : goal.invariant-loop-span
invariant-loop-span l = record {
  counts : counts_of l.spans ≡ counts_of l.fn.spans;
  spans : IsIndex l.span l.spans;
}
