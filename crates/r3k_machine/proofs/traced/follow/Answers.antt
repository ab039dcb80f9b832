use Rattle.std.proofs.Common.{◌∙◌, ap}
use Rattle.r3k_machine.specs.Core.{Core}
use Rattle.r3k_machine.specs.Step.{outcome_of_interrupt_or_instruction, outcome_of_step, sampled, ticked}
use Rattle.r3k_machine.specs.declared.traced.Traced.{Traced}
use Rattle.r3k_machine.proofs.Destinations.{turn_report}
use Rattle.r3k_machine.proofs.traced.follow.Goals as goal

pub returns-then-not-before-clause-report : goal.returns-then-not-before-clause-report
unfolding outcome_of_step
returns-then-not-before-clause-report g c =
    let words = g.M.Mem.words c.args.memory.now in
    ap (λ (t : Traced). t.done) c.follow_interrupt_or_instruction-traced.ensures.traced
    ∙ (turn_report g.M.Mem.ram (record { core = c.sample.new.self; words = words })
    ∙ ap (λ (core : Core). (outcome_of_interrupt_or_instruction g.M.Mem.ram (record { core = core; words = words })).done)
    (c.sample.ensures ∙ ap sampled (c.tick.ensures ∙ ap ticked c.arrive.ensures)))

pub returns-else-not-before-clause-report : goal.returns-else-not-before-clause-report
unfolding outcome_of_step
returns-else-not-before-clause-report g c =
    let words = g.M.Mem.words c.args.memory.now in
    ap (λ (t : Traced). t.done) c.follow_interrupt_or_instruction-traced.ensures.traced
    ∙ (turn_report g.M.Mem.ram (record { core = c.sample.new.self; words = words })
    ∙ ap (λ (core : Core). (outcome_of_interrupt_or_instruction g.M.Mem.ram (record { core = core; words = words })).done)
    (c.sample.ensures ∙ ap sampled (c.tick.ensures ∙ ap ticked c.arrive.ensures)))
