use Rattle.std.proofs.Common.{Option, ℕ, subst}
use Rattle.r3k_machine.specs.Reports.{DifferAt}
use Rattle.r3k_live.proofs.live.mark_stored.Goals as goal

pub returns-in-Some : goal.returns-in-Some
returns-in-Some g c = λ first old new changes differ.
    c.mark.ensures first old new changes (subst (λ (stored : Option ℕ). DifferAt stored old new) c.in-Some.is differ)
