-- Where a processor stands in its instructions, after Kane and Heinrich, chapters 1 and 2: PC, next PC, the delay mark and the load slot,
-- which is empty where its register is r0.
use Rattle.std.specs.Prelude.{◌≡◌, ℕ, false, true, IsFalse, Option, unwrap_or}
use Rattle.r3k_word.specs.Word.{sum_of}
use Rattle.r3k_machine.specs.Core.{Core}
use Rattle.r3k_machine.specs.LoadSlot.{slot_after_load}
use Rattle.r3k_machine.specs.declared.flow.Flow.{Flow}

-- the core once it stands elsewhere
abbrev pub with_flow : Core → Flow → Core
with_flow core flow = record core { pc = flow.pc; next_pc = flow.next_pc; delay = flow.delay; load = slot_after_load flow.slot flow.value }

-- at an address
abbrev pub at : ℕ → Flow
at address = record { pc = address; next_pc = sum_of address 4; delay = false; slot = 0; value = 0 }

-- after an instruction that completes, but for what it writes
abbrev pub moved : Flow → Flow
moved flow = record flow { pc = flow.next_pc; next_pc = sum_of flow.next_pc 4; delay = false; slot = 0 }

-- with the next instruction in a delay slot, and the target after it
abbrev pub targeted : Flow → Option ℕ → Flow
targeted flow target = record flow { next_pc = unwrap_or target flow.next_pc; delay = true }

-- the next instruction stands in no delay slot, and the one after it follows it
pub record IsStraight (flow : Flow) : Type 0 where
  pub free : IsFalse flow.delay
  pub next : flow.next_pc ≡ sum_of flow.pc 4
