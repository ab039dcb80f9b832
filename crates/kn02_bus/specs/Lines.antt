-- The interrupt lines. Which bit of CSR a line has, and which bits of Cause they set, is own.
use Rattle.std.specs.Prelude.{ℕ, ◌+◌, Bool, false, List, slice_index_or}
use Rattle.r3k_word.specs.Word.{has}
use Rattle.dz_serial.specs.Bits.{flag_of}
use Rattle.dz_serial.specs.Reads.{interrupt_line_of}
use Rattle.mc146818.specs.Clock.{requests_interrupt}
use Rattle.kn02_bus.specs.declared.csr.TheConstants.{SERIAL_LINE, LINE_0, LINE_1, LINE_2}
use Rattle.kn02_bus.specs.declared.bus.Lines.{Lines}
use Rattle.kn02_bus.specs.State.{BusState}

-- the external lines, which have the lowest bits
abbrev pub external_lines : List Bool → ℕ
external_lines levels = flag_of LINE_2 (slice_index_or levels 2 false) + flag_of LINE_1 (slice_index_or levels 1 false)
    + flag_of LINE_0 (slice_index_or levels 0 false)

-- the board's eight lines: that of the serial part and the external ones. The other four are 0.
abbrev pub board_lines : BusState → ℕ
board_lines bus = flag_of SERIAL_LINE (interrupt_line_of bus.serial) + external_lines bus.levels

-- The board interrupts while a line and its enable are both 1, and the clock while its line is 1.
abbrev pub lines_of : BusState → Lines
lines_of bus = record {
  board = has bus.enables (board_lines bus);
  clock = requests_interrupt bus.clock;
}
