use Rattle.std.proofs.Common.{refl}
use Rattle.r3k_machine.proofs.state.Core.probe_entry.Goals.{then-found, else-found}
use Rattle.r3k_machine.proofs.state.Core.probe_entry.Goals as goal

pub returns : goal.returns
returns c =
    elim c.if-found.branch [
      | then-found w ↦ rw (
        c.probed-2.ensures,
        w.self-inside-is,
        w.set_ts.ensures,
        ← c.self.view_is,
        ← c.read.ensures,
        ← c.in-Some.ensures.found,
        w.if-found.true,
      ) refl
      | else-found w ↦ rw (
        c.probed-2.ensures,
        w.self-inside-is,
        ← c.self.view_is,
        ← c.read.ensures,
        ← c.in-Some.ensures.found,
        w.if-found.false,
      ) refl
    ]
