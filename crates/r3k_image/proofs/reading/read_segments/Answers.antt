use Rattle.std.proofs.Common.{◌≡◌, ◌++◌, ◌∷◌, [], ◌+◌, ◌*◌, length, arith}
use Rattle.std.proofs.lemmas.Result.{err_from_is_err_and}
use Rattle.std.proofs.lemmas.List.{map_push}
use Rattle.r3k_image.specs.Segments.{view, views, end_of}
use Rattle.r3k_image.proofs.Loop.{goes_on, ends_value, is_done}
use Rattle.r3k_image.proofs.reading.read_segments.Goals as goal

pub returns-in_err-segment-clause-value : goal.returns-in_err-segment-clause-value
returns-in_err-segment-clause-value c =
    let p = err_from_is_err_and c.from_residual.result c.from_residual.ensures.1 in
    rw (p.1, p.2) (ends_value c.in_err-segment.field-0.0 c.args.count c.loop.counter c.loop.start c.args.bytes.now c.loop.rest.now (views c.loop.segments.items) c.loop-test.true c.in_err-segment.ensures.value c.loop.invariant)

pub loop-preserved : goal.loop-preserved
loop-preserved c =
    let s = c.in_ok-segment.segment in
    let pushed : views c.push.new.self.items ≡ views c.loop.segments.items ++ view s ∷ [] = rw c.in_ok-push.ensures.items (map_push _ c.loop.segments.items s) in
    let next : c.from.result + 4 * c.len.result ≡ end_of s.address (length s.words.items) = omega (arith, s.words.ok.0) in
    rw pushed (goes_on c.args.count c.loop.counter c.loop.start c.args.bytes.now c.loop.rest.now (views c.loop.segments.items) (view s) c.in_ok-segment.after.now _ c.loop-test.true c.in_ok-segment.ensures.value next c.loop.invariant)

pub returns-clause-value : goal.returns-clause-value
returns-clause-value c = is_done c.args.count c.loop.counter c.loop.start c.args.bytes.now c.loop.rest.now (views c.loop.segments.items) c.loop-test.false c.loop.invariant
