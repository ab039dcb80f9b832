use Rattle.std.proofs.Common.{◌≡◌, ap, ◌∙◌, arith}
use Rattle.input_log.specs.Event.{LogEvent}
use Rattle.input_log.proofs.Editing.{place_before, place_after, place_within}
use Rattle.input_log.proofs.edits.place_of_moved.Goals as goal

pub overflow_sub-result : goal.overflow_sub-result
overflow_sub-result c =
    let time : c.event.inside.time ≡ c.index-events-from.result.time = ap (λ (e : LogEvent). e.time) c.event.view_is in
    let one = place_before c.args.time c.args.from c.args.events.now c.index-events-from.result c.requires.from_in c.index-events-from.is (omega arith) in
    omega arith

pub returns-then-event-time-clause-place : goal.returns-then-event-time-clause-place
returns-then-event-time-clause-place c =
    let time : c.event.inside.time ≡ c.index-events-from.result.time = ap (λ (e : LogEvent). e.time) c.event.view_is in
    let one = place_before c.args.time c.args.from c.args.events.now c.index-events-from.result c.requires.from_in c.index-events-from.is (omega arith) in
    omega arith

pub returns-else-event-time-clause-place : goal.returns-else-event-time-clause-place
returns-else-event-time-clause-place c =
    let time : c.event.inside.time ≡ c.index-events-from.result.time = ap (λ (e : LogEvent). e.time) c.event.view_is in
    c.place_after-after.ensures.place
    ∙ place_after c.args.time c.args.from c.args.events.now c.index-events-from.result c.requires.from_in c.index-events-from.is (omega arith)

pub returns-else-event-time-clause-bound : goal.returns-else-event-time-clause-bound
returns-else-event-time-clause-bound c =
    let time : c.event.inside.time ≡ c.index-events-from.result.time = ap (λ (e : LogEvent). e.time) c.event.view_is in
    let none = place_after c.args.time c.args.from c.args.events.now c.index-events-from.result c.requires.from_in c.index-events-from.is (omega arith) in
    let within = place_within c.args.time c.args.from c.args.events.now c.requires.from_in in
    omega arith
