use Rattle.std.proofs.Common.{◌≡◌, ℕ}
use Rattle.r3k_machine.proofs.quick.learn_ahead.Given as goal

abbrev pub invariant-loop-index : goal.invariant-loop-index
invariant-loop-index g l = record {
  words : g.M.Mem.words l.memory ≡ g.M.Mem.words l.fn.memory;
  opened : (other : ℕ) → g.M.Mem.is_open l.memory other ≡ g.M.Mem.is_open l.fn.memory other;
}
