use Rattle.std.proofs.Common.{◌≡◌, ◌+◌, ◌-◌, ◌/◌, ◌%◌, ◌<◌, ◌≤◌, Some}
use Rattle.r3k_machine.specs.Run.{next_visit}
use Rattle.present_run.specs.Shown.{Stays}
use Rattle.present_run.proofs.present.Present.visit.Given as goal

-- the search goes on at a time. If the machine does not stand there, the spans before it are joined. The steps so far leave room for
-- those from the start of its span
abbrev pub invariant-loop-time : goal.invariant-loop-time
invariant-loop-time g l = record {
  stays : Stays l.fn.self l.self;
  at : l.time < l.last → ¬ (l.self.runs.machine.at ≡ Some l.time) → l.time / g.row.SPAN ≤ l.self.runs.records.kept.valid;
  found : next_visit g.row.PAGES l.fn.self.inputs.image l.fn.self.inputs.log l.address l.position (l.last - l.position)
      ≡ next_visit g.row.PAGES l.fn.self.inputs.image l.fn.self.inputs.log l.address l.time (l.last - l.time);
  rows : l.self.runs.records.kept.rows ≡ l.fn.self.runs.records.kept.rows;
  count : l.self.runs.machine.live.steps ≤ l.fn.self.runs.machine.live.steps + (l.position % g.row.SPAN + (l.time - l.position));
  room : l.time < l.last → l.self.runs.machine.live.steps + l.time % g.row.SPAN ≤ l.fn.self.runs.machine.live.steps + (l.position % g.row.SPAN + (l.time - l.position));
  least : l.fn.self.runs.machine.live.steps ≤ l.self.runs.machine.live.steps;
  after : l.position ≤ l.time;
  bound : l.time ≤ l.last;
}

abbrev pub decreases-loop-time : goal.decreases-loop-time
decreases-loop-time g l = l.last - l.time
