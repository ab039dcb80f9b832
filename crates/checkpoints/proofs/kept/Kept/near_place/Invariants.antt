use Rattle.std.proofs.Common.{◌<◌, ℕ, slice_get}
use Rattle.checkpoints.specs.Kept.{IsNear, row_at}
use Rattle.checkpoints.proofs.kept.Kept.near_place.Given as goal

-- no record so far nearly applies
abbrev pub invariant-loop-place : goal.invariant-loop-place
invariant-loop-place g l = (k : ℕ) → k < l.place → ¬ IsNear g.row.PAGES g.row.SPAN (slice_get (row_at l.self.rows l.index) k) l.start l.events
