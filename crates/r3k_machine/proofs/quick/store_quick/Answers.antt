use Rattle.std.proofs.Common.{◌∙◌, refl, sym}
use Rattle.r3k_machine.specs.LoadStore.{meaning_of_store}
use Rattle.r3k_machine.specs.State.{State}
use Rattle.r3k_machine.specs.Flow.{with_flow}
use Rattle.r3k_machine.proofs.Quiet.{plain_store, reached_in}
use Rattle.r3k_machine.proofs.quick.store_quick.Goals as goal

pub returns-clause-quick : goal.returns-clause-quick
returns-clause-quick g c =
    let reached = reached_in c.args.core.now c.args.flow.now _ _ c.args.address c.in_ok-physical.physical (rw c.is_aligned.ensures at c.in_ok-physical.ensures.reached) in
    (record { address = c.in_ok-physical.physical; cacheable = reached.cacheable }, c.in_ok-address.address, reached.plain, sym c.in_ok-address.ensures.address)

pub returns-clause-ran : goal.returns-clause-ran
returns-clause-ran g c =
    let s : State = record { core = with_flow c.args.core.now c.args.flow.now; words = g.M.Mem.words c.args.memory.now } in
    let reached = reached_in c.args.core.now c.args.flow.now _ _ c.args.address c.in_ok-physical.physical (rw c.is_aligned.ensures at c.in_ok-physical.ensures.reached) in
    plain_store g.M.Mem.ram s c.args.page c.args.kind c.args.address c.args.value
    (meaning_of_store s.core c.args.kind c.args.address)
    (record { address = c.in_ok-physical.physical; cacheable = reached.cacheable }) c.in_ok-address.address
    reached.plain (sym c.in_ok-address.ensures.address)
    ∙ rw (
      c.storing.ensures,
      c.complete_in.ensures.flow,
      c.complete_in.ensures.core,
      c.reached.ensures.core,
      c.in_ok-address.ensures.words,
      ← c.in_ok-address.ensures.address,
      c.stored.ensures,
    ) refl
