use Rattle.std.proofs.Common.{◌≡◌, ℕ, suc, ◌+◌, ap, arith, refl, sym, subst, ◌∙◌}
use Rattle.kn02_bus.specs.Quiet.{after}
use Rattle.cop0.specs.Changes.{random_after}
use Rattle.r3k_machine.specs.Step.{ticked, outcome_of_instruction}
use Rattle.r3k_machine.specs.Quiet.{IsQuietFor, outcome_elapsed}
use Rattle.r3k_machine.proofs.Quiet.{alone, at_once, code_kept, code_later, instruction_ages, quiet_kept, quiet_later}
use Rattle.r3k_machine.proofs.laws.quiet_laws.Goals as goal

pub returns-clause-none : goal.returns-clause-none
unfolding after random_after
returns-clause-none c = λ s. refl

pub returns-clause-alone : goal.returns-clause-alone
unfolding ticked after
returns-clause-alone c = λ pages n s quiet.
    let steps : n + 1 ≡ suc n = omega arith in
    let now = subst (λ (m : ℕ). IsQuietFor m s.core) steps quiet in
    alone pages n s now (c.quiet_laws.ensures.lines s.core.bus (suc n) now.counts)

pub returns-clause-at_once : goal.returns-clause-at_once
unfolding after
returns-clause-at_once c = λ pages n s quiet quick.
    let steps : n + 1 ≡ suc n = omega arith in
    let now = subst (λ (m : ℕ). IsQuietFor m s.core) steps quiet in
    at_once pages n s now (c.quiet_laws.ensures.lines s.core.bus (suc n) now.counts) (λ word device is. c.quiet_laws.ensures.steady s.core.bus 0 word device (omega arith) is)
    (λ word device is. c.quiet_laws.ensures.steady s.core.bus (suc n) word device now.counts is) quick
    ∙ ap (λ (m : ℕ). outcome_elapsed m (outcome_of_instruction pages s)) (sym steps)

pub returns-clause-stays_quiet : goal.returns-clause-stays_quiet
unfolding after
returns-clause-stays_quiet c = λ pages n s quick quiet.
    quiet_kept n s.core (outcome_of_instruction pages s).state.core (instruction_ages pages 0 0 s (λ word device is. c.quiet_laws.ensures.steady s.core.bus 0 word device (omega arith) is) (λ word device is. c.quiet_laws.ensures.steady s.core.bus 0 word device (omega arith) is) quick).keeps quiet

pub returns-clause-stays_code : goal.returns-clause-stays_code
unfolding after
returns-clause-stays_code c = λ pages s page quick code.
    code_kept pages page s.core (outcome_of_instruction pages s).state.core (instruction_ages pages 0 0 s (λ word device is. c.quiet_laws.ensures.steady s.core.bus 0 word device (omega arith) is) (λ word device is. c.quiet_laws.ensures.steady s.core.bus 0 word device (omega arith) is) quick).keeps code

pub returns-clause-leads_on : goal.returns-clause-leads_on
unfolding after
returns-clause-leads_on c = λ pages s quick.
    (instruction_ages pages 0 0 s (λ word device is. c.quiet_laws.ensures.steady s.core.bus 0 word device (omega arith) is) (λ word device is. c.quiet_laws.ensures.steady s.core.bus 0 word device (omega arith) is) quick).keeps.leads

pub returns-clause-leaves_rest : goal.returns-clause-leaves_rest
unfolding after
returns-clause-leaves_rest c = λ pages s quick.
    let keeps = (instruction_ages pages 0 0 s (λ word device is. c.quiet_laws.ensures.steady s.core.bus 0 word device (omega arith) is) (λ word device is. c.quiet_laws.ensures.steady s.core.bus 0 word device (omega arith) is) quick).keeps in
    record { entries = keeps.entries; caches = keeps.caches; bus = keeps.bus }

pub returns-clause-sends_nothing : goal.returns-clause-sends_nothing
unfolding after
returns-clause-sends_nothing c = λ pages s quick.
    (instruction_ages pages 0 0 s (λ word device is. c.quiet_laws.ensures.steady s.core.bus 0 word device (omega arith) is) (λ word device is. c.quiet_laws.ensures.steady s.core.bus 0 word device (omega arith) is) quick).unsent

pub returns-clause-quiet_later : goal.returns-clause-quiet_later
returns-clause-quiet_later c = λ n more core quiet.
    quiet_later n more core (c.quiet_laws.ensures.stays_quiet core.bus more n (omega (arith, quiet.counts)))
    (c.quiet_laws.ensures.lines core.bus n (omega (arith, quiet.counts))) quiet

pub returns-clause-code_later : goal.returns-clause-code_later
returns-clause-code_later c = code_later
