use Rattle.std.proofs.Common.{◌≡◌, ◌<◌, ◌≤◌, ℕ, get_or}
use Rattle.checkpoints.specs.Rows.{Linked}
use Rattle.checkpoints.proofs.row.Row.own_name.Given as goal

-- no other record so far has the name
abbrev pub invariant-loop-place : goal.invariant-loop-place
invariant-loop-place g l = (k : ℕ) (r : Linked) → 1 ≤ k → k < l.place → ¬ ((get_or l.self.records k r).name ≡ l.name)
