use Rattle.std.proofs.Common.{◌≡◌, ◌+◌, ◌*◌, ◌/◌, ◌<◌, ℕ, length, slice_index_or}
use Rattle.r3k_decode.specs.Operation.{Operation}
use Rattle.r3k_live.specs.declared.flat.TheConstants.{SLOTS, SLOT_WORDS}
use Rattle.r3k_live.proofs.flat.forget.Given as goal

abbrev pub invariant-loop-index : goal.invariant-loop-index
invariant-loop-index l = record {
  room : length l.known.items ≡ SLOTS * SLOT_WORDS + 1;
  there : (index : ℕ) (d : Operation) → index < l.index → slice_index_or l.known.items (l.slot * SLOT_WORDS + index) d ≡ l.stop;
  others : (i : ℕ) (d : Operation) → ¬ (i / SLOT_WORDS ≡ l.slot) → slice_index_or l.known.items i d ≡ slice_index_or l.fn.known.items i d;
}
