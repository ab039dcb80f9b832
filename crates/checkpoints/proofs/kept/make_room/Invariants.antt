use Rattle.std.proofs.Common.{◌≡◌, ◌+◌, ◌-◌, ℕ, length}
use Rattle.checkpoints.specs.Kept.{row_at}
use Rattle.checkpoints.specs.Rows.{ends_in, ends_of, records_of}
use Rattle.checkpoints.proofs.kept.make_room.Given as goal

-- the records and the ends stay
abbrev pub invariant-loop-alloc : goal.invariant-loop-alloc
invariant-loop-alloc g l =
    ((i : ℕ) → row_at (records_of l.rows.items) i ≡ row_at (records_of l.fn.rows.items) i)
    × ((n : ℕ) → ends_of n (ends_in l.rows.items) ≡ ends_of n (ends_in l.fn.rows.items))

abbrev pub decreases-loop-alloc : goal.decreases-loop-alloc
decreases-loop-alloc g l = l.index + 1 - length l.rows.items
