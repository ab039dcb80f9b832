use Rattle.std.proofs.Common.{◌∙◌, List, subst, unwrap_or}
use Rattle.input_log.specs.Event.{LogEvent}
use Rattle.r3k_live.specs.Living.{Living, state_of}
use Rattle.r3k_live.specs.CodePages.{AddsCodePages}
use Rattle.r3k_live.proofs.Recorded.{widened, widened_blocks}
use Rattle.r3k_live.proofs.live.Live.go_on.Goals as goal

pub invariant_of-self : goal.invariant_of-self
invariant_of-self g c =
    let dirty = c.pages.ensures.pages ∙ c.dirty_marks.ensures in record {
      pages = widened g.row.PAGES _ _ _ _ _ _ _ _ c.step_until-stopped.ensures.recorded dirty c.add.ensures.pages c.self.invariant.pages c.step_until-stopped.ensures.dirty;
      blocks = widened_blocks g.row.PAGES _ _ _ _ _ _ _ _ _ c.step_until-stopped.ensures.recorded dirty c.add.ensures.kept c.add.ensures.added c.blocks-2.ensures.marked
          c.self.invariant.blocks c.step_until-stopped.ensures.dirty c.step_until-stopped.ensures.stayed;
    }

pub returns-clause-code_pages : goal.returns-clause-code_pages
returns-clause-code_pages g c =
    let n = unwrap_or c.step_until-stopped.result c.args.steps in
    subst (λ (l : Living). AddsCodePages g.row.PAGES c.args.events.now c.args.from l.state n c.args.recorder.now.code_pages c.step_until-stopped.new.recorder.code_pages) c.self.view_is
    (subst (λ (log : List LogEvent). AddsCodePages g.row.PAGES log c.args.from (state_of c.self.inside.core c.self.inside.memory) n c.args.recorder.now.code_pages c.step_until-stopped.new.recorder.code_pages) c.new.ensures
    c.step_until-stopped.ensures.code_pages)
