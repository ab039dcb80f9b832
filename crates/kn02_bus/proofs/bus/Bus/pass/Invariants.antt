use Rattle.std.proofs.Common.{◌≡◌}
use Rattle.kn02_bus.specs.Quiet.{after}
use Rattle.kn02_bus.proofs.bus.Bus.pass.Given as goal

-- how many ticks have passed
abbrev pub invariant-loop : goal.invariant-loop
invariant-loop l = l.self ≡ after l.counter l.fn.self
