use Rattle.std.proofs.Common.{map}
use Rattle.present_run.proofs.Nearest.{IsSoFar}
use Rattle.present_run.proofs.recent_states.RecentStates.nearest.Given as goal

-- each position is still to come, or it is settled by the one that was found
abbrev pub invariant-loop-position : goal.invariant-loop-position
invariant-loop-position g l = IsSoFar (λ s. s.now.value) l.from l.to l.self (map (λ e. (e.0, e.1.value)) l.position-iterator) l.nearest
