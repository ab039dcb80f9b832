use Rattle.std.proofs.Common.{◌≡◌, ◌<◌, ℕ, Some, slice_get}
use Rattle.checkpoints.specs.Kept.{row_at}
use Rattle.checkpoints.proofs.kept.Kept.applies.Given as goal

-- no record so far applies
abbrev pub invariant-loop-place : goal.invariant-loop-place
invariant-loop-place g l = (k : ℕ) → k < l.place → ¬ (slice_get (row_at l.self.rows l.index) k ≡ Some (record { index = l.index; start = l.start; events = l.events }))
