use Rattle.std.proofs.Common.{arith}
use Rattle.r3k_image.proofs.Pushing.{some_words}
use Rattle.r3k_image.proofs.writing.push_segments.Goals as goal

pub overflow_cast-len : goal.overflow_cast-len
overflow_cast-len c =
    let some = some_words 0 c.loop-segment.segment-index c.args.segments.now c.segment-item.result c.requires c.loop-segment-test.true c.segment-item.is in
    omega (arith, some.1, c.segment-item.result.words.ok.0, c.len.ensures)
