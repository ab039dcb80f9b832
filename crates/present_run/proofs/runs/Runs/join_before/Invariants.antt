use Rattle.std.proofs.Common.{◌≡◌, ℕ, ◌-◌, ◌<◌, ◌≤◌}
use Rattle.present_run.specs.Reuse.{Lacks, Serves, Turns, kept_at}
use Rattle.present_run.specs.Runs.{BelongTo, held}
use Rattle.present_run.proofs.Counts.{Within}
use Rattle.present_run.proofs.runs.Runs.join_before.Given as goal

-- each span that lacked a record was run, and the rows from the next one on are as they were
abbrev pub invariant-loop-alloc : goal.invariant-loop-alloc
invariant-loop-alloc g l =
    let pages = g.row.PAGES in
    let span = g.row.SPAN in
    let old = held l.inputs.image l.inputs.log l.fn.self in
    let now = held l.inputs.image l.inputs.log l.self in record {
      of : BelongTo {pages = pages} {span = span} l.inputs.image l.inputs.log l.self;
      pasts : now.pasts ≡ old.pasts;
      joined : l.fn.self.records.kept.valid ≤ l.self.records.kept.valid;
      later : (i : ℕ) → l.self.records.kept.valid ≤ i → kept_at now i ≡ kept_at old i;
      grows : old.steps ≤ now.steps;
      turns : (i : ℕ) → Turns pages span old i (kept_at now i);
      count : (lacking : ℕ) → Lacks pages span old l.self.records.kept.valid lacking → Within span old.steps lacking now.steps;
      beyond : (i : ℕ) → l.index ≤ i → i < l.self.records.kept.valid → Serves pages span old i;
    }

abbrev pub decreases-loop-alloc : goal.decreases-loop-alloc
decreases-loop-alloc g l = l.index - l.self.records.kept.valid
