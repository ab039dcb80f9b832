use Rattle.std.proofs.Common.{◌≡◌, ◌+◌, ◌-◌, ◌≤◌, IsFalse, IsTrue}
use Rattle.r3k_table.specs.Mnemonics.{number_of}
use Rattle.r3k_machine.specs.Flow.{with_flow}
use Rattle.r3k_live.specs.Living.{known_in, state_of}
use Rattle.r3k_live.specs.Slots.{is_open}
use Rattle.r3k_live.proofs.Quick.{AreAt, IsNamed}
use Rattle.r3k_live.proofs.stretch.step_straight.Given as goal

-- the steps stand at a word, which is in no delay slot
abbrev pub invariant-loop-ahead : goal.invariant-loop-ahead
invariant-loop-ahead g l = record {
  at : AreAt g.row.PAGES l.most l.begun l.first l.halt (l.first + (l.last - l.fn.recorder.steps)) l.index l.page (state_of (with_flow l.fn.core l.fn.flow) l.fn.memory) l.fn.recorder
      l.core l.flow l.memory.words.items l.recorder;
  free : IsFalse l.flow.delay;
  opened : IsTrue (is_open g.row.PAGES l.memory.opened.items l.page.page);
  named : IsNamed (known_in g.row.PAGES l.memory) l.page.page l.index (number_of l.ahead);
}

abbrev pub decreases-loop-ahead : goal.decreases-loop-ahead
decreases-loop-ahead g l = l.last - l.recorder.steps

-- the same, and no load is pending
abbrev pub invariant-loop-at : goal.invariant-loop-at
invariant-loop-at g l = record {
  at : AreAt g.row.PAGES l.most l.begun l.first l.halt (l.first + (l.last - l.fn.recorder.steps)) l.index l.page (state_of (with_flow l.fn.core l.fn.flow) l.fn.memory) l.fn.recorder
      l.core l.flow l.memory.words.items l.recorder;
  free : IsFalse l.flow.delay;
  unloaded : l.flow.slot ≡ 0;
  opened : IsTrue (is_open g.row.PAGES l.memory.opened.items l.page.page);
  named : IsNamed (known_in g.row.PAGES l.memory) l.page.page l.index (number_of l.ahead);
  least : l.initial.recorder.steps ≤ l.recorder.steps;
}

abbrev pub decreases-loop-at : goal.decreases-loop-at
decreases-loop-at g l = l.last - l.recorder.steps
