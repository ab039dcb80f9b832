use Rattle.std.proofs.Common.{ℕ, Option, unwrap_or, ap, ◌∙◌, subst, arith}
use Rattle.r3k_machine.specs.Run.{run, trace}
use Rattle.r3k_pages.specs.Pages.{SameOutside}
use Rattle.r3k_live.specs.Living.{counted}
use Rattle.r3k_live.specs.Record.{dirty_pages}
use Rattle.r3k_live.specs.Recording.{Records}
use Rattle.r3k_live.specs.CodePages.{AddsCodePages}
use Rattle.r3k_live.proofs.live.Live.run.Goals as goal

pub returns-clause-state : goal.returns-clause-state
returns-clause-state g c =
    c.go_on-stopped.ensures.state
    ∙ ap (λ (o : Option ℕ). run g.row.PAGES c.args.events.now c.args.from c.args.self.now.state (unwrap_or o c.args.steps)) (c.go_on-stopped.ensures.never (omega arith))

pub returns-clause-count : goal.returns-clause-count
returns-clause-count g c =
    c.go_on-stopped.ensures.count
    ∙ ap (λ (o : Option ℕ). counted c.args.self.now.steps (unwrap_or o c.args.steps)) (c.go_on-stopped.ensures.never (omega arith))

pub returns-clause-recorded : goal.returns-clause-recorded
returns-clause-recorded g c =
    subst (λ (o : Option ℕ). Records g.row.PAGES (trace g.row.PAGES c.args.events.now c.args.from c.args.self.now.state (unwrap_or o c.args.steps)) c.go_on-stopped.new.recorder)
    (c.go_on-stopped.ensures.never (omega arith)) c.go_on-stopped.ensures.recorded

pub returns-clause-dirty : goal.returns-clause-dirty
returns-clause-dirty g c =
    subst (λ (o : Option ℕ). SameOutside (dirty_pages g.row.PAGES (trace g.row.PAGES c.args.events.now c.args.from c.args.self.now.state (unwrap_or o c.args.steps)))
    c.args.self.now.state.words c.go_on-stopped.new.self.state.words)
    (c.go_on-stopped.ensures.never (omega arith)) c.go_on-stopped.ensures.dirty

pub returns-clause-code_pages : goal.returns-clause-code_pages
returns-clause-code_pages g c =
    subst (λ (o : Option ℕ). AddsCodePages g.row.PAGES c.args.events.now c.args.from c.args.self.now.state (unwrap_or o c.args.steps) c.args.recorder.now.code_pages c.go_on-stopped.new.recorder.code_pages)
    (c.go_on-stopped.ensures.never (omega arith)) c.go_on-stopped.ensures.code_pages
