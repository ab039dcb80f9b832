use Rattle.std.proofs.Common.{length}
use Rattle.write_index.proofs.search.+last_in.Given as goal

abbrev pub decreases-last_in : goal.decreases-last_in
decreases-last_in l = length l.levels.now
