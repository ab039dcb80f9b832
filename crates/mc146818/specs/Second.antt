-- What a second is (own): the ticks in which a clock that runs advances its time once.
use Rattle.std.specs.Prelude.{◌≡◌, ℕ, zero, suc, ◌≤◌, true, false}
use Rattle.mc146818.specs.Clock.{ClockState, runs, is_set}
use Rattle.mc146818.specs.Tick.{ticked}

-- the clock after n ticks
unfoldable pub after : ℕ → ClockState → ClockState
after zero clock = clock
after (suc n) clock = ticked (after n clock)

-- a clock that runs and updates, at the beginning of a second
pub record BeginsSecond (clock : ClockState) : Type 0 where
  pub running : runs clock ≡ true
  pub updating : is_set clock ≡ false
  pub beginning : clock.divider ≡ 0
  pub unit : 1 ≤ clock.unit
