-- Time, arriving bytes and external lines (own): both parts tick with the machine's step.
use Rattle.std.specs.Prelude.{ℕ, Bool, slice_set}
use Rattle.dz_serial.specs.Scan as serial_scan
use Rattle.dz_serial.specs.Silo as serial_silo
use Rattle.mc146818.specs.Tick as clock_tick
use Rattle.kn02_bus.specs.State.{BusState}

-- a tick of both parts
abbrev pub ticked : BusState → BusState
ticked bus = record bus { serial = serial_scan.ticked bus.serial; clock = clock_tick.ticked bus.clock }

-- a byte arrives at a line of the serial part
abbrev pub arrived : BusState → (line byte : ℕ) → BusState
arrived bus line byte = record bus { serial = serial_silo.arrived bus.serial line byte }

-- a byte with a framing error arrives at a line of the serial part
abbrev pub arrived_framing : BusState → (line byte : ℕ) → BusState
arrived_framing bus line byte = record bus { serial = serial_silo.arrived_framing bus.serial line byte }

-- an external line gets its level
abbrev pub wired : BusState → (line : ℕ) → (level : Bool) → BusState
wired bus line level = record bus { levels = slice_set bus.levels line level }
