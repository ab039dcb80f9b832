use Rattle.std.proofs.Common.{ℕ, ◌<◌, ◌≤◌, sym, subst, arith}
use Rattle.std.specs.Prelude.{nat_lt}
use Rattle.std.proofs.lemmas.Nat.{and_mask}
use Rattle.r3k_machine.specs.declared.address.TheConstants.{KSEG0, KSEG1, KSEG2}
use Rattle.r3k_machine.specs.Address.{meaning}
use Rattle.r3k_machine.specs.Quiet.{IsPlain}
use Rattle.r3k_machine.proofs.Quiet.{over_bus}
use Rattle.r3k_machine.proofs.state.Core.reached.Goals as goal

pub returns-then-is_over_bus-clause-reached : goal.returns-then-is_over_bus-clause-reached
returns-then-is_over_bus-clause-reached c =
    let over = c.is_over_bus.ensures.over c.if-is_over_bus.true in
    let least : KSEG0 ≤ c.args.address = omega (arith, over, c.requires.over_bus.within) in
    let most : c.args.address < KSEG2 = omega (arith, over, c.requires.over_bus.within) in
    let some : 0 < c.args.over_bus = omega (arith, over) in record {
      cacheable = nat_lt c.args.address KSEG1;
      plain =
          subst (λ (n : ℕ). IsPlain c.args.self.now (meaning c.args.self.now c.args.access c.args.aligned c.args.address) (record { address = n; cacheable = nat_lt c.args.address KSEG1 }))
          (sym (and_mask c.args.address 29))
          (rw (c.is_over_bus.ensures.aligned c.if-is_over_bus.true) (over_bus c.args.self.now c.args.access c.args.address (c.requires.over_bus.over some) least most));
    }
