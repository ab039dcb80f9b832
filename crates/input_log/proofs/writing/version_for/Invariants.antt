use Rattle.std.proofs.Common.{◌≡◌, drop}
use Rattle.input_log.specs.Spelling.{version_for}
use Rattle.input_log.proofs.writing.version_for.Given as goal

abbrev pub invariant-loop-event : goal.invariant-loop-event
invariant-loop-event l = version_for l.events ≡ version_for (drop l.event-index l.events)
