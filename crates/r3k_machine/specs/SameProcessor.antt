-- The small part of a processor (own): all that an instruction whose steps are quick changes, but for memory. And the equality of two.
use Rattle.std.specs.Prelude.{Bool, ◌&&◌, nat_eq}
use Rattle.std.specs.Bool.{beq}
use Rattle.std.specs.Cmp.Lexicographic.{pointwise}
use Rattle.cop0.specs.Same as control
use Rattle.r3k_machine.specs.Core.{Core}
use Rattle.r3k_machine.specs.LoadSlot.{slot_after_load}
use Rattle.r3k_machine.specs.Same.{is_same_load}
use Rattle.r3k_machine.specs.declared.state.Processor.{Processor}

abbrev pub is_same_processor : Processor → Processor → Bool
is_same_processor a b =
    pointwise nat_eq a.registers b.registers && nat_eq a.hi b.hi && nat_eq a.lo b.lo && nat_eq a.flow.pc b.flow.pc
    && nat_eq a.flow.next_pc b.flow.next_pc && beq a.flow.delay b.flow.delay && is_same_load (slot_after_load a.flow.slot a.flow.value) (slot_after_load b.flow.slot b.flow.value) && control.is_same a.cop0 b.cop0

-- a core with another small part
abbrev pub with_processor : Core → Processor → Core
with_processor core p = record core {
  registers = p.registers;
  hi = p.hi;
  lo = p.lo;
  pc = p.flow.pc;
  next_pc = p.flow.next_pc;
  delay = p.flow.delay;
  load = slot_after_load p.flow.slot p.flow.value;
  cop0 = p.cop0;
}
