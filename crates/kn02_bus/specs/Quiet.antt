-- Quiet ticks (own): those that only count, in which no device does anything visible.
use Rattle.std.specs.Prelude.{ℕ, zero, suc, min, Option, Some, None, ◌==◌, if◌then◌else◌}
use Rattle.dz_serial.specs.Reads as serial_reads
use Rattle.dz_serial.specs.declared.registers.TheConstants.{CSR}
use Rattle.dz_serial.specs.Quiet as serial_quiet
use Rattle.mc146818.specs.Quiet as clock_quiet
use Rattle.kn02_bus.specs.declared.region.Device.{Device}
use Rattle.kn02_bus.specs.declared.region.Device.TheVariants.{Serial, Clock, Csr}
use Rattle.kn02_bus.specs.Access.{csr_of}
use Rattle.kn02_bus.specs.State.{BusState}
use Rattle.kn02_bus.specs.Tick.{ticked}

-- the bus after n ticks
unfoldable pub after : ℕ → BusState → BusState
after zero bus = bus
after (suc n) bus = ticked (after n bus)

-- how many ticks from now only count: those that are quiet for both parts
abbrev pub quiet_of : BusState → ℕ
quiet_of bus = min (serial_quiet.quiet_of bus.serial) (clock_quiet.quiet_of bus.clock)

-- the bus after n ticks that only count
abbrev pub passed : ℕ → BusState → BusState
passed n bus = record bus { serial = serial_quiet.passed n bus.serial; clock = clock_quiet.passed n bus.clock }

-- the word of a register that stays over quiet ticks, and that a load leaves as it is: CSR of the serial part and of the board
abbrev pub steady_word : BusState → Device → Option ℕ
steady_word bus (Serial offset) = if offset == CSR then Some (serial_reads.csr_of bus.serial) else None
steady_word bus (Clock register) = None
steady_word bus Csr = Some (csr_of bus)
