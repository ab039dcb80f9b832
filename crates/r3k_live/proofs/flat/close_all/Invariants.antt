use Rattle.std.proofs.Common.{◌≡◌, ◌<◌, ℕ, length, slice_index}
use Rattle.r3k_live.proofs.flat.close_all.Given as goal

abbrev pub invariant-loop-slot : goal.invariant-loop-slot
invariant-loop-slot l = record {
  none : (slot : ℕ) → slot < l.slot → slice_index l.opened.items slot ≡ 0;
  long : length l.opened.items ≡ length l.fn.opened.items;
}
