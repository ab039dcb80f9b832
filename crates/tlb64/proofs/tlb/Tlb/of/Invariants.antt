use Rattle.std.proofs.Common.{◌≡◌, ◌<◌, ℕ, length, slice_index_or}
use Rattle.tlb64.specs.Entries.{empty_entry}
use Rattle.tlb64.proofs.tlb.Tlb.of.Given as goal

abbrev pub invariant-loop-place : goal.invariant-loop-place
invariant-loop-place l = record {
  whole : length l.tlb ≡ 64;
  same : (place : ℕ) → place < l.place → slice_index_or l.tlb place empty_entry ≡ slice_index_or l.entries place empty_entry;
}
