use Rattle.tlb64.proofs.Candidates.{ArePassed}
use Rattle.tlb64.proofs.sets.lowest_match.Given as goal

abbrev pub invariant-loop-left : goal.invariant-loop-left
invariant-loop-left l = ArePassed l.entries l.address l.pid l.candidates l.left

abbrev pub decreases-loop-left : goal.decreases-loop-left
decreases-loop-left l = l.left
