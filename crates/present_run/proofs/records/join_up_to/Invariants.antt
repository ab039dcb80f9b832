use Rattle.std.proofs.Common.{◌≡◌, ◌-◌, ◌≤◌}
use Rattle.checkpoints.specs.Kept.{Kept}
use Rattle.present_run.proofs.records.join_up_to.Given as goal

-- how many are joined so far
abbrev pub invariant-loop-kept : goal.invariant-loop-kept
invariant-loop-kept g l = record {
  is : l.kept ≡ (let k : Kept = record l.fn.kept { valid = l.kept.valid } in k);
  few : l.kept.valid ≤ l.count;
}

abbrev pub decreases-loop-kept : goal.decreases-loop-kept
decreases-loop-kept g l = l.count - l.kept.valid
