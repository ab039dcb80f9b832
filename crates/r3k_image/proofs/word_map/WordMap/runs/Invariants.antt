use Rattle.std.proofs.Common.{◌≡◌, ◌++◌}
use Rattle.std.specs.FinMap as map
use Rattle.r3k_image.specs.Segments.{views}
use Rattle.r3k_image.specs.Writing.{words_in, AreLongest}
use Rattle.r3k_image.proofs.word_map.WordMap.runs.Given as goal

abbrev pub invariant-loop-address : goal.invariant-loop-address
invariant-loop-address l = record {
  words : words_in (views l.runs.items) ++ l.address-iterator ≡ map.entries l.self;
  longest : AreLongest (views l.runs.items);
}
