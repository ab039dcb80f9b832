use Rattle.std.proofs.Common.{◌≡◌, ◌≤◌, ℕ, length, slice_index, take}
use Rattle.present_run.specs.Sent.{bytes_on}
use Rattle.present_run.proofs.index.counts_of.Given as goal

-- those so far are counted
abbrev pub invariant-loop-one : goal.invariant-loop-one
invariant-loop-one l = record {
  each : (line : ℕ) → line ≤ 3 → slice_index l.counts line ≡ length (bytes_on line (take l.one-index l.sent));
  four : length l.counts ≡ 4;
}
