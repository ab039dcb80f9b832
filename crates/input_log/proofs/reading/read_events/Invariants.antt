use Rattle.input_log.proofs.Loop.{Reads}
use Rattle.input_log.proofs.reading.read_events.Given as goal

abbrev pub invariant-loop : goal.invariant-loop
invariant-loop l = Reads l.version l.count l.counter l.last l.bytes l.rest l.events.items
