use Rattle.std.proofs.Common.{refl}
use Rattle.dcache.proofs.caches.Caches.copy.Goals as goal

pub returns : goal.returns
returns c = rw (
  ← c.self.view_is,
  c.in_ok-from_slice.ensures.items,
  c.in_ok-from_slice-2.ensures.items,
  c.deref.ensures.value,
  c.deref-2.ensures.value,
) refl
