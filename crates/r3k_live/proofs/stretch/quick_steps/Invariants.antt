use Rattle.std.proofs.Common.{◌+◌, ◌-◌, ◌≤◌, IsTrue}
use Rattle.r3k_machine.specs.Flow.{IsStraight, with_flow}
use Rattle.r3k_live.specs.Going.{GoesOn}
use Rattle.r3k_live.specs.Living.{state_of}
use Rattle.r3k_live.specs.Slots.{is_open}
use Rattle.r3k_live.proofs.stretch.quick_steps.Given as goal

-- they went on, and the next one is straight
abbrev pub invariant-loop-index : goal.invariant-loop-index
invariant-loop-index g l = record {
  goes : GoesOn g.row.PAGES l.most l.stop l.page (l.fn.recorder.steps - l.begun) (l.recorder.steps - l.begun)
      (state_of (with_flow l.fn.core l.fn.flow) l.fn.memory) (state_of (with_flow l.core l.flow) l.memory) l.fn.recorder l.recorder;
  straight : IsStraight l.flow;
  least : l.fn.recorder.steps ≤ l.recorder.steps;
  opened : IsTrue (is_open g.row.PAGES l.memory.opened.items l.page.page);
}

abbrev pub decreases-loop-index : goal.decreases-loop-index
decreases-loop-index g l = l.begun + l.most - l.recorder.steps
