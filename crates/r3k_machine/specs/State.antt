-- The state of the machine: the processor, and the words of RAM and ROM in one list (Kane and Heinrich, chapter 2).
use Rattle.std.specs.Prelude.{ℕ, List, Option, Some, None, slice_index, slice_set, ◌==◌, if◌then◌else◌}
use Rattle.r3k_machine.specs.Core.{Core}
use Rattle.r3k_machine.specs.LoadSlot.{DelayedLoad}

pub record State : Type 0 where
  pub core : Core
  pub words : List ℕ

-- what an instruction reads of a register
abbrev pub register : Core → ℕ → ℕ
register core number = slice_index core.registers number

-- the registers after a write. r0 stays 0
abbrev pub with_register : List ℕ → ℕ → ℕ → List ℕ
with_register registers number value = if number == 0 then registers else slice_set registers number value

-- the registers after the pending load landed
abbrev pub landed : List ℕ → Option DelayedLoad → List ℕ
landed registers None = registers
landed registers (Some load) = with_register registers load.register load.value
