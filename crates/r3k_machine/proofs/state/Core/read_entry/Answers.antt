use Rattle.std.proofs.Common.{refl}
use Rattle.r3k_machine.proofs.state.Core.read_entry.Goals as goal

pub returns : goal.returns
returns c = rw (c.loaded.ensures, c.entry-entry.ensures, c.place_in.ensures.place, ← c.self.view_is) refl
