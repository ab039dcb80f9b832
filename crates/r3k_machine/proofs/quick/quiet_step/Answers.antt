use Rattle.std.proofs.Common.{◌≡◌, [], ◌∙◌, ap, sym}
use Rattle.r3k_machine.specs.Core.{Core}
use Rattle.r3k_machine.specs.Quiet.{IsIndexIn}
use Rattle.r3k_machine.specs.State.{State}
use Rattle.r3k_machine.specs.Step.{Outcome, outcome_of_instruction, outcome_of_step, outcome_of_word, ticked, with_fall}
use Rattle.r3k_machine.specs.declared.load_store.Word.{Word}
use Rattle.r3k_machine.proofs.Quiet.{page_instruction}
use Rattle.r3k_machine.proofs.quick.quiet_step.Goals as goal

pub returns-clause-ran : goal.returns-clause-ran
returns-clause-ran g c =
    let pages = g.M.Mem.ram in
    let s : State = record { core = c.args.core.now; words = g.M.Mem.words c.args.memory.now } in
    let t : State = record { core = ticked s.core; words = s.words } in
    let there : IsIndexIn c.args.page s.core.pc c.in_ok-index.index = rw c.pc.ensures at c.in_ok-index.ensures.index in
    let w : Word = record { word = c.word.result; page = c.args.page.page } in
    let none = c.quiet_laws.ensures.none s in
    let word = ap (λ (n : _). outcome_of_word pages t (record { word = n; page = c.args.page.page })) (sym c.word.ensures) in
    let state = rw c.tick.ensures at c.run_fetched-done.ensures.state in
    let done = rw c.tick.ensures at c.run_fetched-done.ensures.report in
    let ran : outcome_of_word pages t w ≡ record { state = record { core = c.run_fetched-done.new.core; words = g.M.Mem.words c.run_fetched-done.new.memory }; done = c.run_fetched-done.result } =
    λ i. record { state = sym state i; done = sym done i } in
    ap (outcome_of_step pages []) (sym none)
    ∙ (c.quiet_laws.ensures.alone pages 0 s c.requires.quiet
    ∙ (ap (λ (u : State). with_fall (outcome_of_instruction pages (record { core = ticked u.core; words = s.words }))) none
    ∙ (ap with_fall (page_instruction pages s c.args.page c.in_ok-index.index c.requires.code there ∙ (word ∙ ran))
    ∙ ap (λ (core : Core). let o : Outcome = record { state = record { core = core; words = g.M.Mem.words c.run_fetched-done.new.memory }; done = c.run_fetched-done.result } in o) (sym c.fall.ensures))))
