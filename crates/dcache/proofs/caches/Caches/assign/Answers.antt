use Rattle.dcache.proofs.caches.Caches.assign.Goals as goal

pub returns : goal.returns
returns c = rw (← c.other.view_is) cc
