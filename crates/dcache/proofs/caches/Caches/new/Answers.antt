-- Each array is made of copies of one empty slot.
use Rattle.std.proofs.Math.Path.{ap₂}
use Rattle.dcache.specs.Arrays.{Arrays}
use Rattle.dcache.proofs.caches.Caches.new.Goals as goal

pub returns : goal.returns
returns c =
    ap₂ {C = Arrays} (λ first second. record { first = first; second = second })
    (c.in_ok-vec.ensures.items_if_clones_equal (λ slot same. same))
    (c.in_ok-vec-2.ensures.items_if_clones_equal (λ slot same. same))
