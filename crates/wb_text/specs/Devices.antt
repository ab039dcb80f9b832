-- What `devices` shows (own): the serial part, its four lines, its silo, the clock and the board, a line for each.
use Rattle.std.specs.Prelude.{ℕ, ◌++◌, List, Option, Some, None, codes, flat_map, length}
use Rattle.std.specs.Fmt.{decimal}
use Rattle.wb_text.specs.Text.{byte_text, flag_text, line, numbered, word_text}
use Rattle.wb_text.specs.declared.devices.Board.{Board}
use Rattle.wb_text.specs.declared.devices.Clock.{Clock}
use Rattle.wb_text.specs.declared.devices.Devices.{Devices}
use Rattle.wb_text.specs.declared.devices.Line.{Line}
use Rattle.wb_text.specs.declared.devices.Serial.{Serial}

-- the serial part: what its registers read, the line that a byte was last sent on, and the ticks of a byte
unfoldable pub serial_text : Serial → List ℕ
serial_text s =
    codes "serial csr " ++ word_text s.csr ++ codes " rbuf " ++ word_text s.rbuf ++ codes " tcr " ++ word_text s.tcr
    ++ codes " msr " ++ word_text s.msr ++ codes " served " ++ decimal s.last_served ++ codes " time " ++ decimal s.byte_time

-- a line of it: its receiver, whether a byte was lost, and for how many ticks it still sends
unfoldable pub line_text : ℕ → Line → List ℕ
line_text number l =
    codes "line " ++ decimal number ++ codes " receiver " ++ flag_text l.receiver ++ codes " lost " ++ flag_text l.lost
    ++ codes " busy " ++ decimal l.busy

-- the silo: how many characters wait, and the words that reads of RBUF would give, one after the other
abbrev pub waiting_text : ℕ → List ℕ
waiting_text word = codes " " ++ word_text word

unfoldable pub silo_text : List ℕ → List ℕ
silo_text words = codes "silo " ++ decimal (length words) ++ flat_map waiting_text words

-- the clock: whether it interrupts, the ticks up to the end of the second and of the period, or `none`, and what its registers read
abbrev pub ticks_text : Option ℕ → List ℕ
ticks_text None = codes "none"
ticks_text (Some ticks) = decimal ticks

unfoldable pub clock_text : Clock → List ℕ
clock_text c =
    codes "clock interrupt " ++ flag_text c.interrupt ++ codes " second " ++ ticks_text c.second ++ codes " period " ++ ticks_text c.period
    ++ codes " registers " ++ flat_map byte_text c.registers

-- the board: its control and status register, and whether it interrupts
abbrev pub board_text : Board → List ℕ
board_text b = codes "board csr " ++ word_text b.csr ++ codes " interrupt " ++ flag_text b.interrupt

unfoldable pub devices_text : Devices → List ℕ
devices_text d =
    line (serial_text d.serial) ++ numbered line_text 0 d.lines ++ line (silo_text d.silo.items) ++ line (clock_text d.clock)
    ++ line (board_text d.board)
