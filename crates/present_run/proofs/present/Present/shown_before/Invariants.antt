use Rattle.std.proofs.Common.{◌-◌, ◌*◌, ◌≤◌}
use Rattle.r3k_machine.specs.Run.{console_of, trace_at}
use Rattle.present_run.specs.Console.{Shows}
use Rattle.present_run.proofs.present.Present.shown_before.Given as goal

-- the console of the spans so far
abbrev pub invariant-loop-index : goal.invariant-loop-index
invariant-loop-index g l = record {
  shown : Shows l.from l.count (console_of l.line (trace_at g.row.PAGES l.self.inputs.image l.self.inputs.log (l.index * g.row.SPAN))) l.shown;
  within : l.index ≤ l.spans;
}

abbrev pub decreases-loop-index : goal.decreases-loop-index
decreases-loop-index g l = l.spans - l.index
