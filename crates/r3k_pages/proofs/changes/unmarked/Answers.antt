use Rattle.std.proofs.Common.{◌+◌, ◌/◌, false, not, slice_index_or, arith, lit<}
use Rattle.r3k_pages.specs.declared.block.TheConstants.{BLOCK_WORDS}
use Rattle.r3k_pages.specs.declared.changes.Change.{Change}
use Rattle.r3k_pages.proofs.Altered.{kept_few}
use Rattle.r3k_pages.proofs.changes.unmarked.Goals as goal

pub push-requires : goal.push-requires
push-requires c = (
  lit< tt,
  rw c.loop-change.invariant
      (omega (arith, kept_few (λ (change : Change). not (slice_index_or c.args.marks.now (c.args.first + change.place / BLOCK_WORDS) false)) c.args.changes.now c.loop-change.change-index)),
)
