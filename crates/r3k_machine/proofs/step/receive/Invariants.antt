use Rattle.std.proofs.Common.{◌≡◌, take}
use Rattle.r3k_machine.specs.Step.{received}
use Rattle.r3k_machine.proofs.step.receive.Given as goal

-- the events so far
abbrev pub invariant-loop-event : goal.invariant-loop-event
invariant-loop-event l = l.bus ≡ received (take l.event-index l.events) l.fn.bus
