-- Quiet ticks (own): those that only count, so that many can pass at once.
use Rattle.std.specs.Prelude.{ℕ, ◌+◌, ◌-◌, ◌%◌, ◌==◌, min, Option, Some, None, if◌then◌else◌}
use Rattle.r3k_word.specs.Word.{has}
use Rattle.mc146818.specs.declared.registers.TheConstants.{PF}
use Rattle.mc146818.specs.declared.quiet.TheConstants.{FOREVER}
use Rattle.mc146818.specs.Divider.{second_of, period_of}
use Rattle.mc146818.specs.Clock.{ClockState, runs, rate}

-- the clock after n ticks that only count: its divider moves on by n, where it runs
abbrev pub passed : ℕ → ClockState → ClockState
passed n clock = record clock { divider = if runs clock then clock.divider + n else clock.divider }

-- how many ticks pass before the one that ends the second
abbrev pub quiet_second : (unit count : ℕ) → ℕ
quiet_second unit count = second_of unit - 1 - count

-- how many ticks pass before the one that ends a period
abbrev pub quiet_period : Option ℕ → (count : ℕ) → ℕ
quiet_period None count = FOREVER
quiet_period (Some period) count = period - 1 - count % period

-- how many ticks there are up to the one that ends the second, and up to the one that ends a period, each with it
abbrev pub left_of : (count : ℕ) → Option ℕ → Option ℕ
left_of count None = None
left_of count (Some period) = Some (period - count % period)

abbrev pub next_second : ClockState → Option ℕ
next_second clock = if runs clock then Some (second_of clock.unit - clock.divider) else None

abbrev pub next_period : ClockState → Option ℕ
next_period clock = if runs clock then left_of clock.divider (period_of clock.unit (rate clock)) else None

-- how many ticks pass before the one that sets PF: never, where it is set already
abbrev pub quiet_flag : ClockState → ℕ
quiet_flag clock =
    if has clock.flags PF then FOREVER else quiet_period (period_of clock.unit (rate clock)) clock.divider

-- How many ticks from now only count: those before the next one that ends the second, whatever SET
-- is, or sets PF. A divider that does not run stays 0; the next tick clears one that is not.
unfoldable pub quiet_of : ClockState → ℕ
quiet_of clock =
    if runs clock then min (quiet_second clock.unit clock.divider) (quiet_flag clock)
    else (if clock.divider == 0 then FOREVER else 0)
