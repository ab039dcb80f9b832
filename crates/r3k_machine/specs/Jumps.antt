-- Jumps (project rule): the steps of the run that transferred control.
use Rattle.std.specs.Prelude.{ℕ, zero, suc, ◌+◌, ◌-◌, ◌||◌, Bool, not, List, [], ◌∷◌, Option, Some, None, if◌then◌else◌}
use Rattle.input_log.specs.Event.{LogEvent}
use Rattle.r3k_image.specs.Boot.{Boot}
use Rattle.r3k_machine.specs.declared.jumps.Jump.{Jump}
use Rattle.r3k_machine.specs.declared.traced.Traced.{Traced}
use Rattle.r3k_machine.specs.declared.traced.Transfer.{Transfer}
use Rattle.r3k_machine.specs.Traced.{traced_at}

-- The jump of a step, if the step transferred control. A local transfer counts only if local ones are asked for.
abbrev pub jump_to : (local : Bool) → (step : ℕ) → Traced → Option Transfer → Option Jump
jump_to local step t None = None
jump_to local step t (Some transfer) =
    if local || not transfer.local
    then Some (record { step = step; pc = t.pc; word = t.word; to = transfer.to; exception = t.exception })
    else None

abbrev pub jump_of : (local : Bool) → (step : ℕ) → Traced → Option Jump
jump_of local step t = jump_to local step t t.transfer

-- Jumps of the run, and the position from which the run is to be asked on.
pub record Jumping : Type 0 where
  pub jumps : List Jump
  pub next : ℕ

-- a jump, if there is one, in front of those that `rest` finds, of which one fewer is then asked for
abbrev pub in_front : Option Jump → (count : ℕ) → (rest : ℕ → Jumping) → Jumping
in_front None count rest = rest count
in_front (Some jump) count rest = let later = rest (count - 1) in record later { jumps = jump ∷ later.jumps }

-- The next jumps from a position on, at most `count`, of the next `window` steps. The search ends after the step of the last jump that is
-- asked for, or after the window.
unfoldable pub jumps_from : (pages : ℕ) → Boot → List LogEvent → (local : Bool) → (position count window : ℕ) → Jumping
jumps_from pages image log local position zero window = record { jumps = []; next = position }
jumps_from pages image log local position (suc count) zero = record { jumps = []; next = position }
jumps_from pages image log local position (suc count) (suc window) =
    in_front (jump_of local position (traced_at pages image log position)) (suc count)
    (λ more. jumps_from pages image log local (position + 1) more window)
