use Rattle.std.proofs.Common.{refl}
use Rattle.r3k_machine.proofs.state.Core.looked_up.Goals as goal

pub returns-then-found-clause-core : goal.returns-then-found-clause-core
returns-then-found-clause-core c =
    let found = (rw c.read-hi.ensures at c.in_ok-found.ensures.found) in
    rw (c.set_ts.ensures, c.in_ok-found.ensures.same, ← c.self.view_is, ← found, c.if-found.true) refl
