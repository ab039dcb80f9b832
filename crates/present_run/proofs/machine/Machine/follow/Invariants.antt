use Rattle.std.proofs.Common.{◌≡◌, ◌+◌, ◌≤◌, Some, length}
use Rattle.r3k_machine.specs.Traced.{traces_at}
use Rattle.present_run.specs.Runs.{IsRunning}
use Rattle.present_run.proofs.machine.Machine.follow.Given as goal

-- the steps so far
abbrev pub invariant-loop-made : goal.invariant-loop-made
invariant-loop-made g l = record {
  of : IsRunning {pages = g.row.PAGES} {span = g.row.SPAN} l.inputs.image l.inputs.log l.self;
  stands : l.self.at ≡ Some (l.position + l.made);
  traced : l.steps.items ≡ traces_at g.row.PAGES l.inputs.image l.inputs.log l.position l.made;
  few : length l.steps.items ≡ l.made;
  count : l.self.live.steps ≤ l.fn.self.live.steps + l.made;
  least : l.fn.self.live.steps ≤ l.self.live.steps;
}
