-- What `devices` shows (own): what reads of the devices' registers would give, without their effect, and what the devices hold besides.
use Rattle.std.specs.Prelude.{ℕ, [], ◌∷◌, map, slice_index}
use Rattle.dz_serial.specs.Reads.{character_word, word_read}
use Rattle.dz_serial.specs.Serial.{Serial, entry_of}
use Rattle.dz_serial.specs.declared.registers.TheConstants.{CSR, MSR, RBUF, TCR}
use Rattle.mc146818.specs.Clock.{ClockState, registers, requests_interrupt}
use Rattle.mc146818.specs.Quiet.{next_period, next_second}
use Rattle.kn02_bus.specs.Access.{csr_of}
use Rattle.kn02_bus.specs.Lines.{lines_of}
use Rattle.kn02_bus.specs.State.{BusState}
use Rattle.wb_text.specs.declared.devices.Board.{Board}
use Rattle.wb_text.specs.declared.devices.Clock.{Clock}
use Rattle.wb_text.specs.declared.devices.Devices.{Devices}
use Rattle.wb_text.specs.declared.devices.Line.{Line}
use Rattle.wb_text.specs.declared.devices.Serial.{Serial as SerialShown}

-- the serial part, and one of its lines
abbrev pub serial_shown : Serial → SerialShown
serial_shown s = record {
  csr = word_read s CSR;
  rbuf = word_read s RBUF;
  tcr = word_read s TCR;
  msr = word_read s MSR;
  last_served = s.last_served;
  byte_time = s.byte_time;
}

abbrev pub line_shown : Serial → ℕ → Line
line_shown s line = record { receiver = entry_of s.receivers line; lost = entry_of s.lost line; busy = slice_index s.busy line }

abbrev pub clock_shown : ClockState → Clock
clock_shown c = record { interrupt = requests_interrupt c; second = next_second c; period = next_period c; registers = registers c }

abbrev pub board_shown : BusState → Board
board_shown bus = record { csr = csr_of bus; interrupt = (lines_of bus).board }

abbrev pub devices_shown : BusState → Devices
devices_shown bus = record {
  serial = serial_shown bus.serial;
  lines = map (line_shown bus.serial) (0 ∷ 1 ∷ 2 ∷ 3 ∷ []);
  silo = record { items = map character_word bus.serial.silo };
  clock = clock_shown bus.clock;
  board = board_shown bus;
}
