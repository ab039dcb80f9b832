use Rattle.std.proofs.Common.{◌≡◌, ◌-◌, ◌++◌}
use Rattle.r3k_live.specs.Stores.{writers_in}
use Rattle.r3k_live.proofs.stores.add_of_block.Given as goal

-- the words so far
abbrev pub invariant-loop-place : goal.invariant-loop-place
invariant-loop-place l = l.written.items ≡ l.fn.written.items ++ writers_in l.first (l.place - l.first) l.last
