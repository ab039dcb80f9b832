use Rattle.std.proofs.Common.{◌≡◌, ℕ, length, slice_index, take}
use Rattle.r3k_live.specs.Waiting.{come_later, is_among}
use Rattle.r3k_live.proofs.stores.come_later.Given as goal

-- those so far
abbrev pub invariant-loop-word : goal.invariant-loop-word
invariant-loop-word l = record {
  long : length l.last.items ≡ length l.fn.last.items;
  so_far : (place : ℕ) → slice_index l.last.items place ≡ come_later (is_among (take l.word-index l.held) place) l.steps l.passed (slice_index l.fn.last.items place);
}
