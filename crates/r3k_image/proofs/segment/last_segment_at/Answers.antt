use Rattle.std.proofs.Common.{ap, ◌∙◌, option_map}
use Rattle.std.proofs.lemmas.Bool.{le-leb, lt-leb}
use Rattle.r3k_image.specs.Segments.{view}
use Rattle.r3k_image.proofs.Last.{last_by_partition, shown}
use Rattle.r3k_image.proofs.segment.last_segment_at.Goals as goal

pub returns : goal.returns
returns c =
    let parted = c.count_up_to.ensures.parted in
    shown c.last.result ∙ ap (option_map view) c.last.ensures.value
    ∙ last_by_partition c.args.address c.args.segments.now c.count_up_to.result c.count_up_to.ensures.bound
    ((λ k d low high. le-leb _ _ (parted.0 k d low high)), (λ k d low high. lt-leb _ _ (parted.1 k d low high)))
