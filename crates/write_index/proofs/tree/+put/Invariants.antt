use Rattle.std.proofs.Common.{length}
use Rattle.write_index.proofs.tree.+put.Given as goal

abbrev pub decreases-put : goal.decreases-put
decreases-put l = length l.levels.now
