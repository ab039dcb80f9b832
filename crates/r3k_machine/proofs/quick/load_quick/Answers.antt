use Rattle.std.proofs.Common.{◌∙◌, refl, sym, arith}
use Rattle.kn02_bus.specs.Quiet.{after}
use Rattle.r3k_machine.specs.Flow.{with_flow}
use Rattle.r3k_machine.specs.LoadStore.{meaning_of_load}
use Rattle.r3k_machine.specs.State.{State}
use Rattle.r3k_machine.proofs.Quiet.{StaySteady, plain_load, reached_in}
use Rattle.r3k_machine.proofs.quick.load_quick.Goals as goal

pub returns-clause-quick : goal.returns-clause-quick
returns-clause-quick g c =
    let reached = rw c.is_aligned.ensures at c.in_ok-physical.ensures.reached in
    let plain = reached_in c.args.core.now c.args.flow.now _ _ c.args.address c.in_ok-physical.physical reached in
    (record { address = c.in_ok-physical.physical; cacheable = plain.cacheable }, c.in_ok-loaded.loaded, plain.plain, sym (rw c.reached.ensures.core at c.in_ok-loaded.ensures.loaded))

pub returns-clause-ran : goal.returns-clause-ran
unfolding after
returns-clause-ran g c =
    let s : State = record { core = with_flow c.args.core.now c.args.flow.now; words = g.M.Mem.words c.args.memory.now } in
    let reached = rw c.is_aligned.ensures at c.in_ok-physical.ensures.reached in
    let plain = reached_in c.args.core.now c.args.flow.now _ _ c.args.address c.in_ok-physical.physical reached in
    let steady : StaySteady s.core.bus s.core.bus = λ word device is. c.quiet_laws.ensures.steady s.core.bus 0 word device (omega arith) is in
    plain_load g.M.Mem.ram s.core.bus s c.args.page c.args.kind c.args.register c.args.address
    (meaning_of_load s.core c.args.kind c.args.address)
    (record { address = c.in_ok-physical.physical; cacheable = plain.cacheable }) c.in_ok-loaded.loaded
    steady plain.plain (sym (rw c.reached.ensures.core at c.in_ok-loaded.ensures.loaded))
    ∙ rw (
      c.loading.ensures,
      c.set_slot.ensures,
      c.loaded.ensures,
      c.index.ensures.value,
      c.registers.ensures.registers,
      c.complete_in.ensures.flow,
      c.complete_in.ensures.core,
      c.reached.ensures.core,
    ) refl
