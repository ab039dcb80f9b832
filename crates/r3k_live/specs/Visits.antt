-- Where a run comes to an address (own).
use Rattle.std.specs.Prelude.{ℕ, zero, suc, List, Option, Some, None, ◌==◌, if◌then◌else◌}
use Rattle.input_log.specs.Event.{LogEvent}
use Rattle.r3k_machine.specs.State.{State}
use Rattle.r3k_machine.specs.Run.{run}

-- the least number of steps above one, at most n more, after which the PC holds an address
unfoldable pub first_visit : (pages : ℕ) → List LogEvent → (time : ℕ) → State → (address above limit : ℕ) → Option ℕ
first_visit pages log time s address above zero = None
first_visit pages log time s address above (suc limit) =
    if (run pages log time s (suc above)).core.pc == address then Some (suc above)
    else first_visit pages log time s address (suc above) limit
