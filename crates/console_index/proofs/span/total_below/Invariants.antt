use Rattle.std.proofs.Common.{◌≡◌}
use Rattle.console_index.specs.Counts.{total}
use Rattle.console_index.specs.Totals.{counts_of}
use Rattle.console_index.proofs.span.total_below.Given as goal

-- what was added is what the spans so far sent
abbrev pub invariant-loop-span : goal.invariant-loop-span
invariant-loop-span l = l.total ≡ total (counts_of l.spans) l.line l.span
