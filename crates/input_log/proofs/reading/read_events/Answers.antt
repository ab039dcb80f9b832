use Rattle.std.proofs.Common.{◌≡◌, ap}
use Rattle.input_log.specs.Event.{LogEvent}
use Rattle.input_log.proofs.Loop.{goes_on, ends_value, is_done}
use Rattle.input_log.proofs.reading.read_events.Goals as goal

pub returns-in-Err-clause-value : goal.returns-in-Err-clause-value
returns-in-Err-clause-value c =
    ends_value c.args.version c.in-Err.kind c.args.count c.loop.counter c.loop.last c.args.bytes.now c.loop.rest.now c.loop.events.items c.loop-test.true c.in-Err.ensures c.loop.invariant

pub loop-preserved : goal.loop-preserved
loop-preserved c =
    let event = c.in-Ok.read.0 in
    let time : c.event.inside.time ≡ event.time = ap (λ (e : LogEvent). e.time) c.event.view_is in
    let more = goes_on c.args.version c.args.count c.loop.counter c.loop.last c.args.bytes.now c.loop.rest.now c.loop.events.items event c.in-Ok.read.1.now c.loop-test.true c.in-Ok.ensures c.loop.invariant in
    rw (c.in_ok-push.ensures.items, time) more

pub returns-clause-value : goal.returns-clause-value
returns-clause-value c = is_done c.args.version c.args.count c.loop.counter c.loop.last c.args.bytes.now c.loop.rest.now c.loop.events.items c.loop-test.false c.loop.invariant
