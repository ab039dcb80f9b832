use Rattle.std.proofs.Common.{◌≡◌, ℕ, ◌<◌, ◌≤◌, IsFalse, false, length, slice_index_or}
use Rattle.r3k_live.proofs.changes.mark_page.Given as goal

-- the marks of the blocks so far are there
abbrev pub invariant-loop-block : goal.invariant-loop-block
invariant-loop-block l = record {
  long : length l.marks.items ≡ length l.fn.marks.items;
  kept : (block : ℕ) → IsFalse (slice_index_or l.marks.items block false) → IsFalse (slice_index_or l.fn.marks.items block false);
  added : (block : ℕ) → l.first ≤ block → block < l.block → IsFalse (slice_index_or l.marks.items block false) → IsFalse (slice_index_or l.more block false);
}
