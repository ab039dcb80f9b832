use Rattle.std.proofs.Common.{refl}
use Rattle.r3k_machine.proofs.load_store.load_over_bus.Goals as goal

pub returns-in-None-clause-word : goal.returns-in-None-clause-word
returns-in-None-clause-word g c =
    let place = (rw c.ram_pages-pages.ensures at c.in_default.ensures) in
    let device = (rw c.ram_pages-pages.ensures at c.in-None.ensures.word) in
    rw (← place, ← device) refl
