use Rattle.std.proofs.Common.{◌/◌, ◌<◌, ℕ, arith, subst, sym}
use Rattle.std.proofs.lemmas.Bool.{ltb-true}
use Rattle.r3k_word.specs.declared.layout.TheConstants.{PAGE_BYTES}
use Rattle.r3k_machine.specs.Quiet.{IsFetchedOverBus}
use Rattle.r3k_machine.proofs.Quiet.{fetched_over_bus}
use Rattle.r3k_machine.proofs.quick.CodePage.goes_over_bus.Goals as goal

pub returns-clause-some : goal.returns-clause-some
returns-clause-some c = λ there.
    let less : c.subtract.result < c.args.self.over_bus / PAGE_BYTES = ltb-true _ _ there in
    omega (arith, less)

pub returns-clause-fetched : goal.returns-clause-fetched
returns-clause-fetched c = λ there here pages core code.
    let less : c.subtract.result < c.args.self.over_bus / PAGE_BYTES = ltb-true _ _ there in
    subst (λ (number : ℕ). IsFetchedOverBus pages number c.args.self.page) (sym here)
    (fetched_over_bus pages core c.args.self code (code.over_bus.over (omega (arith, less))) (omega (arith, less, here, code.within, c.subtract.ensures)) (omega (arith, less, here, code.over_bus.within, c.subtract.ensures)))
