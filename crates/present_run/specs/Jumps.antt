-- Jumps that were found, and how many steps they took (project rule).
use Rattle.std.specs.Prelude.{ℕ, ◌-◌, Result, Ok, Err}
use Rattle.r3k_machine.specs.Jumps.{Jumping}
use Rattle.present_run.specs.declared.jumps.Jumps.{Jumps}

-- jumps that were found, as they are defined
abbrev pub jumping_of : Jumps → Jumping
jumping_of found = record { jumps = found.jumps.items; next = found.next }

-- the steps that were followed to find them: none if memory ran out before
abbrev pub steps_followed : {E : Type 0} → (position : ℕ) → Result Jumps E → ℕ
steps_followed position (Ok found) = found.next - position
steps_followed position (Err fault) = 0
