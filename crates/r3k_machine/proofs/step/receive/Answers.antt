use Rattle.std.proofs.Common.{refl}
use Rattle.std.proofs.lemmas.List.{take_all}
use Rattle.std.proofs.lemmas.List.Sums.{fold_more}
use Rattle.input_log.specs.Event.{LogEvent}
use Rattle.kn02_bus.specs.State.{BusState}
use Rattle.r3k_machine.specs.Step.{received_as}
use Rattle.r3k_machine.proofs.step.receive.Goals as goal

pub loop-event-preserved : goal.loop-event-preserved
loop-event-preserved c =
    let next = fold_more {X = LogEvent} {Y =
    BusState} (λ devices event. received_as event.kind devices event.line event.byte) c.args.bus.now c.args.events.now c.loop-event.event-index c.event-item.result c.loop-event-test.true in
    rw (next, ← c.loop-event.invariant, ← c.event-item.is, c.receive_one.ensures) refl

pub returns : goal.returns
returns c = rw (take_all c.loop-event.event-index c.args.events.now c.loop-event-test.false) at c.loop-event.invariant
