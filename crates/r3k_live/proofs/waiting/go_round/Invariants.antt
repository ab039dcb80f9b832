use Rattle.std.proofs.Common.{◌≡◌, ◌+◌, ◌-◌, ◌<◌, ◌≤◌}
use Rattle.r3k_live.specs.Living.{state_of}
use Rattle.r3k_live.specs.declared.waiting.TheConstants.{RETURNS}
use Rattle.r3k_live.proofs.Gone.{GoesFor}
use Rattle.r3k_live.proofs.waiting.go_round.Given as goal

-- the steps so far
abbrev pub invariant-loop-steps : goal.invariant-loop-steps
invariant-loop-steps g l = record {
  bound : l.steps ≤ l.most;
  count : l.recorder.steps ≡ l.fn.recorder.steps + l.steps;
  returns : l.returns < RETURNS;
  elsewhere : ¬ (l.core.pc ≡ l.stop);
  goes : GoesFor g.row.PAGES l.time l.events l.stop l.steps (state_of l.fn.core l.fn.memory) (state_of l.core l.memory) l.fn.recorder l.recorder;
}

abbrev pub decreases-loop-steps : goal.decreases-loop-steps
decreases-loop-steps g l = l.most - l.steps
