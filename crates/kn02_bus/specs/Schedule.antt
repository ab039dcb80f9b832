-- What is planned ahead (own): the quiet ticks, and the lines, which stay as they are over them.
use Rattle.std.specs.Prelude.{◌≡◌, ◌≤◌}
use Rattle.kn02_bus.specs.declared.schedule.Schedule.{Schedule}
use Rattle.kn02_bus.specs.State.{BusState}
use Rattle.kn02_bus.specs.Lines.{lines_of}
use Rattle.kn02_bus.specs.Quiet.{quiet_of}

-- the schedule for a bus as it is now
abbrev pub schedule_for : BusState → Schedule
schedule_for bus = record { left = quiet_of bus; planned = quiet_of bus; lines = lines_of bus }

-- a schedule for a bus of which some planned ticks may have passed already
pub record IsScheduleFor (bus : BusState) (schedule : Schedule) : Type 0 where
  pub within : schedule.left ≤ schedule.planned
  pub quiet : schedule.planned ≤ quiet_of bus
  pub lines : schedule.lines ≡ lines_of bus
