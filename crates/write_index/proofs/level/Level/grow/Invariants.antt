use Rattle.std.proofs.Common.{◌-◌, length}
use Rattle.write_index.specs.Tree.{Keeps}
use Rattle.write_index.proofs.level.Level.grow.Given as goal

-- the nodes stay
abbrev pub invariant-loop-alloc : goal.invariant-loop-alloc
invariant-loop-alloc l = Keeps l.initial.self-inside.nodes.items l.self-inside.nodes.items

abbrev pub decreases-loop-alloc : goal.decreases-loop-alloc
decreases-loop-alloc l = l.count - length l.self-inside.nodes.items
