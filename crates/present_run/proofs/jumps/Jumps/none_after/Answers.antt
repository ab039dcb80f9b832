use Rattle.std.proofs.Common.{inr, refl, sym}
use Rattle.present_run.proofs.Jumping.{ended}
use Rattle.present_run.proofs.jumps.Jumps.none_after.Goals as goal

pub returns : goal.returns
returns c = λ pages image log local count. rw c.new.ensures (sym (ended pages image log local c.args.position count 0 (inr refl)))
