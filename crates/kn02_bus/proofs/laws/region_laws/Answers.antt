-- Each test of the map shows where the word stands.
use Rattle.std.proofs.Common.{arith}
use Rattle.std.proofs.lemmas.Bool.Decides.{nat_tests}
use Rattle.kn02_bus.specs.Region.{region_of}
use Rattle.kn02_bus.proofs.laws.region_laws.Goals as goal

pub returns-clause-ram : goal.returns-clause-ram
unfolding region_of
returns-clause-ram c = λ pages address h. grind (arith, nat_tests)

pub returns-clause-rom : goal.returns-clause-rom
unfolding region_of
returns-clause-rom c = λ pages address h. grind (arith, nat_tests)

pub returns-clause-device : goal.returns-clause-device
unfolding region_of
returns-clause-device c = λ pages address device h. grind (arith, nat_tests)

pub returns-clause-unassigned : goal.returns-clause-unassigned
unfolding region_of
returns-clause-unassigned c = λ pages address h. grind (arith, nat_tests)
