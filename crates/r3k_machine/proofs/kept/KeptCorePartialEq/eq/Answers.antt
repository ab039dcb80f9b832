use Rattle.std.proofs.Common.{rules, ◌≡◌}
use Rattle.r3k_machine.specs.Same.{is_same, is_same_decides}
use Rattle.r3k_machine.proofs.kept.KeptCorePartialEq.eq.Goals as goal

pub returns-then-eq-2-clause-equal : goal.returns-then-eq-2-clause-equal
returns-then-eq-2-clause-equal c =
    let same : c.eq-then-eq-2.result ≡ is_same c.args.self.now c.args.other.now = search rules in
    rw same (is_same_decides c.args.self.now c.args.other.now)

pub returns-else-eq-2-clause-equal : goal.returns-else-eq-2-clause-equal
returns-else-eq-2-clause-equal c =
    let same : c.if-eq.value ≡ is_same c.args.self.now c.args.other.now = search rules in
    rw same (is_same_decides c.args.self.now c.args.other.now)
