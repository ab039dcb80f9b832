use Rattle.std.proofs.Common.{◌≡◌, ◌+◌, ◌-◌, ◌≤◌, Some, length}
use Rattle.r3k_machine.specs.Jumps.{jumps_from}
use Rattle.present_run.specs.Runs.{IsRunning}
use Rattle.present_run.proofs.Jumping.{joined}
use Rattle.present_run.proofs.machine.Machine.jumps.Given as goal

-- the jumps so far, and the position from which the search goes on
abbrev pub invariant-loop-next : goal.invariant-loop-next
invariant-loop-next g l = record {
  of : IsRunning {pages = g.row.PAGES} {span = g.row.SPAN} l.inputs.image l.inputs.log l.self;
  stands : l.self.at ≡ Some l.next;
  found : jumps_from g.row.PAGES l.inputs.image l.inputs.log l.local l.position l.count (l.last - l.position)
      ≡ joined l.jumps.items (jumps_from g.row.PAGES l.inputs.image l.inputs.log l.local l.next (l.count - length l.jumps.items) (l.last - l.next));
  few : length l.jumps.items ≤ l.count;
  after : l.position ≤ l.next;
  within : l.next ≤ l.last;
  count : l.self.live.steps ≤ l.fn.self.live.steps + (l.next - l.position);
  least : l.fn.self.live.steps ≤ l.self.live.steps;
}

abbrev pub decreases-loop-next : goal.decreases-loop-next
decreases-loop-next g l = l.last - l.next
