use Rattle.tlb64.proofs.Keeping.{none_kept}
use Rattle.tlb64.proofs.Written.{reset_are}
use Rattle.tlb64.proofs.tlb.Tlb.new.Goals as goal

pub invariant_of-result : goal.invariant_of-result
invariant_of-result c = (reset_are, none_kept _)
