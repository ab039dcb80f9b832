use Rattle.std.proofs.Common.{◌≡◌, ◌^◌, ◌<◌, ◌≤◌, ℕ, length, slice_index}
use Rattle.r3k_live.specs.Waiting.{passed_by}
use Rattle.r3k_live.proofs.destinations.Destinations.pass.Given as goal

-- those so far
abbrev pub invariant-loop-number : goal.invariant-loop-number
invariant-loop-number l = record {
  long : length l.self-inside.last ≡ 35;
  fits : (number : ℕ) → slice_index l.self-inside.last number < 2 ^ 32;
  so_far : (number : ℕ) → number < l.number → slice_index l.fn.self number ≤ l.steps → slice_index l.self-inside.last number ≡ passed_by l.since l.passed (slice_index l.fn.self number);
  rest : (number : ℕ) → l.number ≤ number → slice_index l.self-inside.last number ≡ slice_index l.fn.self number;
}
