use Rattle.std.proofs.Common.{length}
use Rattle.write_index.proofs.tree.+grow.Given as goal

abbrev pub decreases-grow : goal.decreases-grow
decreases-grow l = length l.levels.now
