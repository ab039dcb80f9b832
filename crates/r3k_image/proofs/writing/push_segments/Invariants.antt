use Rattle.std.proofs.Common.{◌≡◌, ◌++◌, take}
use Rattle.std.specs.Prelude.{flat_map}
use Rattle.r3k_image.specs.Segments.{views}
use Rattle.r3k_image.specs.Spelling.{segment}
use Rattle.r3k_image.proofs.writing.push_segments.Given as goal

abbrev pub invariant-loop-segment : goal.invariant-loop-segment
invariant-loop-segment l = l.bytes.items ≡ l.initial.bytes.items ++ flat_map segment (views (take l.segment-index l.segments))
