use Rattle.std.proofs.Common.{nat_eq, not, arith, lit<}
use Rattle.r3k_pages.specs.declared.changes.Change.{Change}
use Rattle.r3k_pages.proofs.Altered.{kept_few}
use Rattle.r3k_pages.proofs.changes.elsewhere.Goals as goal

pub push-requires : goal.push-requires
push-requires c = (
  lit< tt,
  rw c.loop-change.invariant
      (omega (arith, kept_few (λ (change : Change). not (nat_eq change.place c.args.place)) c.args.changes.now c.loop-change.change-index)),
)
