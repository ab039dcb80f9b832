-- Loads and stores of the devices' words (KN02 functional specification; MC146818 data sheet; the layout of CSR is own).
-- An access leaves the other devices.
use Rattle.std.specs.Prelude.{ℕ, ◌+◌, ◌*◌, Option, None, slice_index, if◌then◌else◌}
use Rattle.r3k_word.specs.Word.{field_of, has}
use Rattle.dz_serial.specs.Reads as serial_reads
use Rattle.dz_serial.specs.Writes as serial_writes
use Rattle.dz_serial.specs.declared.write.Sent.{Sent}
use Rattle.mc146818.specs.Clock.{registers, written}
use Rattle.mc146818.specs.Clock as clock_registers
use Rattle.kn02_bus.specs.declared.csr.TheConstants.{ENABLE, BYTE_0, BYTE_2}
use Rattle.kn02_bus.specs.declared.region.Device.{Device}
use Rattle.kn02_bus.specs.declared.region.Device.TheVariants.{Serial, Clock, Csr}
use Rattle.kn02_bus.specs.State.{BusState}
use Rattle.kn02_bus.specs.Lines.{board_lines}

-- CSR: the enables in bits 23 to 16, and the lines as they are now in bits 7 to 0; the others read 0
abbrev pub csr_of : BusState → ℕ
csr_of bus = bus.enables * ENABLE + board_lines bus

-- the word that a load gives. A register of the clock stands in byte 0 of its word, and the other bytes read 0.
abbrev pub loaded : BusState → Device → ℕ
loaded bus (Serial offset) = serial_reads.word_read bus.serial offset
loaded bus (Clock register) = slice_index (registers bus.clock) register
loaded bus Csr = csr_of bus

-- the bus after a load: the read of a register may have an effect on its device
abbrev pub after_load : BusState → Device → BusState
after_load bus (Serial offset) = record bus { serial = serial_reads.after_read bus.serial offset }
after_load bus (Clock register) = record bus { clock = clock_registers.after_read bus.clock register }
after_load bus Csr = bus

-- A store carries a word and its lanes: bit k of them says that byte k of the word is covered. One that does not cover byte
-- 0 does nothing to the clock. Byte 2 of CSR has the enables, and all else of it is read only.
abbrev pub clock_stored : BusState → (register word lanes : ℕ) → BusState
clock_stored bus register word lanes =
    if has lanes BYTE_0 then record bus { clock = written bus.clock register (field_of 7 0 word) } else bus

abbrev pub csr_stored : BusState → (word lanes : ℕ) → BusState
csr_stored bus word lanes = if has lanes BYTE_2 then record bus { enables = field_of 23 16 word } else bus

-- the bus after a store
abbrev pub after_store : BusState → Device → (word lanes : ℕ) → BusState
after_store bus (Serial offset) word lanes =
    record bus { serial = serial_writes.after_write bus.serial offset word lanes }
after_store bus (Clock register) word lanes = clock_stored bus register word lanes
after_store bus Csr word lanes = csr_stored bus word lanes

-- the byte that a store sends, on its line
abbrev pub sent_by_store : BusState → Device → (word lanes : ℕ) → Option Sent
sent_by_store bus (Serial offset) word lanes = serial_writes.sent_by bus.serial offset word lanes
sent_by_store bus (Clock register) word lanes = None
sent_by_store bus Csr word lanes = None
