use Rattle.std.proofs.Common.{◌≡◌, ◌++◌, take}
use Rattle.std.specs.Prelude.{flat_map}
use Rattle.input_log.specs.Spelling.{event_bytes}
use Rattle.input_log.proofs.writing.push_events.Given as goal

abbrev pub invariant-loop-event : goal.invariant-loop-event
invariant-loop-event l = l.bytes.items ≡ l.initial.bytes.items ++ flat_map (event_bytes l.version) (take l.event-index l.events)
