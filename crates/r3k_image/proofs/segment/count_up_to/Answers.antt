use Rattle.std.proofs.Common.{leb, rules}
use Rattle.std.proofs.lemmas.Bool.{leb-true, leb-false}
use Rattle.std.proofs.lemmas.List.Sorted.{IsPartitionPoint-from_clause, IsPartitionedBy-leb}
use Rattle.r3k_image.proofs.Last.{in_order}
use Rattle.r3k_image.proofs.segment.count_up_to.Goals as goal

pub returns-clause-parted : goal.returns-clause-parted
returns-clause-parted c =
    let segments = c.args.segments.now in
    let parted = IsPartitionedBy-leb (λ s. s.address) segments c.args.address (in_order 0 segments c.requires) in
    let point = IsPartitionPoint-from_clause (λ s. leb s.address c.args.address) segments c.partition_point.result c.partition_point.ensures.partitioned parted (λ a r q k. search rules) in
    ((λ k d low high. leb-true _ _ (point.0 k d low high)), (λ k d low high. leb-false _ _ (point.1 k d low high)))
