use Rattle.std.proofs.Common.{◌^◌, ◌<◌, arith}
use Rattle.r3k_machine.specs.Flow.{with_flow}
use Rattle.r3k_machine.specs.State.{State}
use Rattle.r3k_machine.specs.Step.{operands_of}
use Rattle.r3k_machine.proofs.Quiet.{if_both, in_page, known_ran, quick_known}
use Rattle.r3k_machine.proofs.quick.quick_step.Goals as goal

pub returns-clause-inside : goal.returns-clause-inside
returns-clause-inside g c =
    let s : State = record { core = with_flow c.args.core.now c.args.flow.now; words = g.M.Mem.words c.args.memory.now } in
    if_both c.perform_quick.result c.perform_quick.ensures.quick c.perform_quick.ensures.ran
    (λ done effect ran.
    in_page g.M.Mem.ram s c.args.index c.insn-insn.result.now c.requires.within c.insn-insn.ensures.past
    (rw (c.effect_by_name-effect.ensures, c.operands.ensures.operands, c.pc.ensures) at effect))

pub returns-clause-quick : goal.returns-clause-quick
returns-clause-quick g c =
    let s : State = record { core = with_flow c.args.core.now c.args.flow.now; words = g.M.Mem.words c.args.memory.now } in
    let word : (operands_of s.core c.insn-insn.result.now).rs < 2 ^ 32 =
    rw c.operands.ensures.operands at (let small : c.operands.result.rs < 2 ^ 32 = omega arith in small) in
    if_both c.perform_quick.result c.perform_quick.ensures.quick c.perform_quick.ensures.ran
    (λ done effect ran.
    let quick = (rw (c.effect_by_name-effect.ensures, c.operands.ensures.operands, c.pc.ensures) at effect) in
    let inside = in_page g.M.Mem.ram s c.args.index c.insn-insn.result.now c.requires.within c.insn-insn.ensures.past quick in
    quick_known g.M.Mem.ram s c.args.page c.args.index c.insn-insn.result.now c.requires.code (c.requires.here inside) (c.insn-insn.ensures.right inside)
    c.operands.ensures.zero word quick)

pub returns-clause-ran : goal.returns-clause-ran
returns-clause-ran g c =
    let s : State = record { core = with_flow c.args.core.now c.args.flow.now; words = g.M.Mem.words c.args.memory.now } in
    let word : (operands_of s.core c.insn-insn.result.now).rs < 2 ^ 32 =
    rw c.operands.ensures.operands at (let small : c.operands.result.rs < 2 ^ 32 = omega arith in small) in
    if_both c.perform_quick.result c.perform_quick.ensures.quick c.perform_quick.ensures.ran
    (λ done effect ran.
    let quick = (rw (c.effect_by_name-effect.ensures, c.operands.ensures.operands, c.pc.ensures) at effect) in
    let inside = in_page g.M.Mem.ram s c.args.index c.insn-insn.result.now c.requires.within c.insn-insn.ensures.past quick in
    known_ran g.M.Mem.ram s c.args.page c.args.index c.insn-insn.result.now c.requires.code (c.requires.here inside) (c.insn-insn.ensures.right inside)
    c.operands.ensures.zero word quick _
    (rw (c.effect_by_name-effect.ensures, c.operands.ensures.operands, c.pc.ensures) at ran))
