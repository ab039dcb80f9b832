use Rattle.std.proofs.Common.{refl}
use Rattle.dcache.proofs.caches.Caches.store_word.Goals as goal

pub returns : goal.returns
returns c = rw (c.set_slot.ensures, c.tag.ensures) refl
