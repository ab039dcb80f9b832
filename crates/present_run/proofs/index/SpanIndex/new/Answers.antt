use Rattle.std.proofs.Common.{refl}
use Rattle.present_run.proofs.Agreeing.{has_none, has_still}
use Rattle.present_run.proofs.index.SpanIndex.new.Goals as goal

pub returns-clause-agrees : goal.returns-clause-agrees
returns-clause-agrees c = λ pages span i. has_still pages span _ _ i _ _ c.new.ensures c.new-2.ensures refl (has_none pages span i)
