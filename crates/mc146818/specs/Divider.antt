-- The divider (own, after the MC146818 data sheet, register A: divider chain and rate selection). It
-- counts the ticks of a second, 8192 units of them.
use Rattle.std.specs.Prelude.{ℕ, ◌+◌, ◌-◌, ◌*◌, ◌%◌, ◌^◌, Bool, false, Option, Some, None, if◌then◌else◌, ◌==◌, nat_le}
use Rattle.mc146818.specs.declared.divider.TheConstants.{UNITS, NEAR_END}

-- how many ticks have passed in this second, and the ticks of a unit
pub record Ticks : Type 0 where
  pub count : ℕ
  pub unit : ℕ

-- the ticks of a second
abbrev pub second_of : ℕ → ℕ
second_of unit = UNITS * unit

-- the count after a tick: at the end of the second it is 0 again
abbrev pub next_count : (unit count : ℕ) → ℕ
next_count unit count = if count + 1 == second_of unit then 0 else count + 1

-- the ticks from one periodic interrupt to the next, by the rate (data sheet, 32,768 Hz): none at 0,
-- 1/256 second at 1, 1/128 at 2, and from 3 on twice as many at each rate, 1/8192 to 1/2 second
abbrev pub period_of : (unit rate : ℕ) → Option ℕ
period_of unit rate =
    if rate == 0 then None
    else (if rate == 1 then Some (32 * unit)
    else (if rate == 2 then Some (64 * unit)
    else Some (unit * 2 ^ (rate - 3))))

-- a period ends at this count
abbrev pub ends_at : Option ℕ → ℕ → Bool
ends_at None count = false
ends_at (Some period) count = count % period == 0

-- an update is near: the last two units of the second, 244 microseconds (data sheet, UIP)
abbrev pub is_near_end : (unit count : ℕ) → Bool
is_near_end unit count = nat_le (NEAR_END * unit) count
