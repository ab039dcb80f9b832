use Rattle.std.proofs.Common.{◌≡◌, ◌+◌, ◌/◌, false, filter, not, slice_index_or, take}
use Rattle.r3k_pages.specs.declared.block.TheConstants.{BLOCK_WORDS}
use Rattle.r3k_pages.proofs.changes.unmarked.Given as goal

-- those so far
abbrev pub invariant-loop-change : goal.invariant-loop-change
invariant-loop-change l =
    l.left.items ≡ filter (λ change. not (slice_index_or l.marks (l.first + change.place / BLOCK_WORDS) false)) (take l.change-index l.changes)
