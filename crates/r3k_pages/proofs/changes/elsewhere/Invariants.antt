use Rattle.std.proofs.Common.{◌≡◌, filter, nat_eq, not, take}
use Rattle.r3k_pages.proofs.changes.elsewhere.Given as goal

-- those so far
abbrev pub invariant-loop-change : goal.invariant-loop-change
invariant-loop-change l = l.left.items ≡ filter (λ change. not (nat_eq change.place l.place)) (take l.change-index l.changes)
