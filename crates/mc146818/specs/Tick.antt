-- A tick of the clock (MC146818 data sheet: update cycle, periodic interrupt, alarm interrupt; that a
-- tick is a step of the machine is own). First the divider moves, then a period may end, and then
-- the time may be updated.
use Rattle.std.specs.Prelude.{Bool, if◌then◌else◌, ◌==◌, ◌&&◌, not, bit_or}
use Rattle.mc146818.specs.declared.registers.TheConstants.{PF, AF, UF}
use Rattle.mc146818.specs.Time.{format_of, advanced, alarm_matches}
use Rattle.mc146818.specs.Divider.{next_count, period_of, ends_at}
use Rattle.mc146818.specs.Clock.{ClockState, runs, rate, is_set}

-- the divider moves
abbrev pub moved : ClockState → ClockState
moved clock = record clock { divider = next_count clock.unit clock.divider }

-- a period ends at the count of the divider
abbrev pub ends_period : ClockState → Bool
ends_period clock = ends_at (period_of clock.unit (rate clock)) clock.divider

-- PF is set when a period ends
abbrev pub with_period : ClockState → ClockState
with_period clock = if ends_period clock then record clock { flags = bit_or clock.flags PF } else clock

-- an update: the time advances by a second, UF is set, and AF where the alarm is for the new time
abbrev pub updated : ClockState → ClockState
updated clock =
    let time = advanced (format_of clock.b) clock.time in
    let flags = bit_or clock.flags UF in
    record clock { time = time; flags = if alarm_matches clock.alarm time then bit_or flags AF else flags }

-- a second has passed: there is an update, unless SET is 1
abbrev pub with_update : ClockState → ClockState
with_update clock = if (clock.divider == 0) && not (is_set clock) then updated clock else clock

-- the clock after a tick. A divider that does not run is held at 0
abbrev pub ticked : ClockState → ClockState
ticked clock = if runs clock then with_update (with_period (moved clock)) else record clock { divider = 0 }
