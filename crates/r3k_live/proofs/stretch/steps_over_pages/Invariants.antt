use Rattle.std.proofs.Common.{◌+◌, ◌-◌, ◌≤◌, IsTrue}
use Rattle.r3k_machine.specs.Flow.{IsStraight, with_flow}
use Rattle.r3k_machine.specs.Reports.{IsPage}
use Rattle.r3k_live.specs.Going.{GoesOver, MayGoOn}
use Rattle.r3k_live.specs.Living.{state_of}
use Rattle.r3k_live.specs.Slots.{is_open}
use Rattle.r3k_live.proofs.Quick.{left}
use Rattle.r3k_live.proofs.stretch.steps_over_pages.Given as goal

-- they went on, and may go on in the page
abbrev pub invariant-loop-next : goal.invariant-loop-next
invariant-loop-next g l = record {
  goes : GoesOver g.row.PAGES l.most l.stop (l.recorder.steps - l.begun)
      (state_of (with_flow l.fn.core l.fn.flow) l.fn.memory) (state_of (with_flow l.core l.flow) l.memory) l.fn.recorder l.recorder;
  may : MayGoOn g.row.PAGES l.most l.page (with_flow l.core l.flow) l.recorder;
  straight : IsStraight l.flow;
  page : IsPage g.row.PAGES l.page.page;
  opened : IsTrue (is_open g.row.PAGES l.memory.opened.items l.page.page);
  least : l.begun ≤ l.recorder.steps;
}

abbrev pub decreases-loop-next : goal.decreases-loop-next
decreases-loop-next g l = left (l.begun + l.most) l.recorder.steps l.flow.pc l.page.number
