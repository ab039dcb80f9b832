use Rattle.std.proofs.Common.{◌≡◌, ◌<◌, ◌≤◌, ℕ, None}
use Rattle.r3k_machine.specs.Run.{last_writer}
use Rattle.present_run.specs.Index.{steps_at}
use Rattle.present_run.proofs.index.SpanIndex.last_writer.Given as goal

-- no record from there on wrote it
abbrev pub invariant-loop-index : goal.invariant-loop-index
invariant-loop-index g l = record {
  none : (i : ℕ) → l.before ≤ i → i < l.count → last_writer l.target (steps_at g.row.PAGES g.row.SPAN l.kept.rows i) ≡ None;
  bound : l.before ≤ l.count;
}

abbrev pub decreases-loop-index : goal.decreases-loop-index
decreases-loop-index g l = l.before
