-- The words of all segments, one segment after the other.
use Rattle.std.proofs.Common.{◌≡◌, length, arith, sym, ap, subst, ◌∙◌}
use Rattle.std.proofs.lemmas.List.{take_all}
use Rattle.r3k_image.specs.Segments.{views, AreSegments}
use Rattle.r3k_image.specs.Writing.{words_in, runs_of}
use Rattle.r3k_image.proofs.LongestRuns.{runs_of-words_in}
use Rattle.r3k_image.proofs.SetWords.{runs_stand, entries_of_segments}
use Rattle.r3k_image.proofs.Pushing.{some_words}
use Rattle.r3k_image.proofs.runs.longest_runs.Goals as goal

pub push_words-requires-clause-some : goal.push_words-requires-clause-some
push_words-requires-clause-some c =
    let some = some_words 0 c.loop-segment.segment-index c.args.segments.now c.segment-item.result c.requires c.loop-segment-test.true c.segment-item.is in
    omega (arith, some.0, ap length c.deref.ensures.value)

pub returns-clause-runs : goal.returns-clause-runs
returns-clause-runs c =
    sym (runs_of-words_in (views c.loop-segment.runs.items) c.loop-segment.invariant.longest)
    ∙ ap runs_of (c.loop-segment.invariant.words ∙ ap (λ ss. words_in (views ss)) (take_all c.loop-segment.segment-index c.args.segments.now c.loop-segment-test.false))

pub returns-clause-stand : goal.returns-clause-stand
returns-clause-stand c =
    let is : views c.loop-segment.runs.items ≡ runs_of (words_in (views c.args.segments.now)) = returns-clause-runs c in
    subst (AreSegments 0) (sym is) (runs_stand 0 (words_in (views c.args.segments.now)) (entries_of_segments 0 (views c.args.segments.now) c.requires))
