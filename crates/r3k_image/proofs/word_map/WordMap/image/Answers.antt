-- The runs are those of the words.
use Rattle.std.proofs.Common.{◌≡◌, ap, ◌∙◌}
use Rattle.std.specs.FinMap as map
use Rattle.std.specs.FinMap.{from_entries}
use Rattle.r3k_image.specs.Segments.{views, set_words}
use Rattle.r3k_image.proofs.LongestRuns.{words_in-runs_of}
use Rattle.r3k_image.proofs.SetWords.{map_of_entries}
use Rattle.r3k_image.proofs.word_map.WordMap.image.Goals as goal

pub returns : goal.returns
returns c =
    let m = c.args.self.now in
    let words : set_words (views c.in_ok-segments.segments.items) ≡ m =
    ap set_words c.in_ok-segments.ensures.runs ∙ ap from_entries (words_in-runs_of (map.entries m)) ∙ map_of_entries m in
    λ i. record { words = words i; byte_time = c.get.ensures.value i; unit = c.get-2.ensures.value i; clock_start = c.get-3.ensures.value i }
