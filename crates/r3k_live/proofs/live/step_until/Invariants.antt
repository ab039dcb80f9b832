use Rattle.std.proofs.Common.{◌≡◌, ◌+◌, ◌-◌, ◌^◌, ◌<◌, ◌≤◌}
use Rattle.r3k_live.specs.Going.{AreLeft, HasGone}
use Rattle.r3k_live.specs.Living.{state_of}
use Rattle.r3k_live.specs.CodePages.{AddsCodePages}
use Rattle.r3k_live.specs.Visits.{first_visit}
use Rattle.r3k_live.proofs.live.step_until.Given as goal

-- `made` steps of the run are made and recorded, none came to the address, the pages in which the PC stood are noted, and the events of later times are left
abbrev pub invariant-loop-made : goal.invariant-loop-made
invariant-loop-made g l = record {
  gone : HasGone g.row.PAGES l.fn.events l.from (state_of l.fn.core l.fn.memory) l.made (state_of l.core l.memory) l.recorder;
  found : l.stop < 2 ^ 32 → first_visit g.row.PAGES l.fn.events l.from (state_of l.fn.core l.fn.memory) l.stop 0 l.steps
      ≡ first_visit g.row.PAGES l.fn.events l.from (state_of l.fn.core l.fn.memory) l.stop l.made (l.steps - l.made);
  left : AreLeft (l.from + l.made) l.events l.fn.events;
  code_pages : AddsCodePages g.row.PAGES l.fn.events l.from (state_of l.fn.core l.fn.memory) l.made l.fn.recorder.code_pages l.recorder.code_pages;
  bound : l.made ≤ l.steps;
}

abbrev pub decreases-loop-made : goal.decreases-loop-made
decreases-loop-made g l = l.steps - l.made
