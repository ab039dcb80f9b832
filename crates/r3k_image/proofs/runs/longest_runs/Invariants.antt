use Rattle.std.proofs.Common.{◌≡◌, take}
use Rattle.r3k_image.specs.Segments.{views}
use Rattle.r3k_image.specs.Writing.{words_in, AreLongest}
use Rattle.r3k_image.proofs.runs.longest_runs.Given as goal

abbrev pub invariant-loop-segment : goal.invariant-loop-segment
invariant-loop-segment l = record {
  words : words_in (views l.runs.items) ≡ words_in (views (take l.segment-index l.segments));
  longest : AreLongest (views l.runs.items);
}
