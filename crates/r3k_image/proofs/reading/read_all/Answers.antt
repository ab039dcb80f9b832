use Rattle.std.proofs.Common.{arith}
use Rattle.r3k_image.specs.Segments.{views}
use Rattle.r3k_image.proofs.Format.{is_made}
use Rattle.r3k_image.proofs.reading.read_all.Goals as goal

pub invariant_of-result : goal.invariant_of-result
invariant_of-result c =
    is_made c.args.bytes.now c.in_ok-header.rest.now c.in_ok-segments.rest.now c.in_ok-header.header (views c.in_ok-segments.segments.items)
    (λ i. omega (arith, c.type_inv.bytes i)) c.in_ok-header.ensures c.in_ok-segments.ensures.value
