use Rattle.std.proofs.Common.{◌≡◌, ap, rules, ◌∷◌, [], Option, Some, ℕ}
use Rattle.r3k_machine.specs.Step.{page_stored}
use Rattle.r3k_machine.specs.declared.step.Done.{Done}
use Rattle.r3k_machine.proofs.step.Done.storing.Goals as goal

pub returns : goal.returns
returns c =
    let page : c.map.result ≡ page_stored c.args.stored.address = search rules in
    rw c.none.ensures (ap {B = Done} (λ (p : Option ℕ). record {
      sent = c.args.stored.sent;
      stored = c.args.stored.address;
      touched =
          Some c.args.page ∷ p ∷ [];
      wrote = 0;
    }) page)
