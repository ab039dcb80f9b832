-- The clock (MC146818 data sheet: address map, registers A to D, interrupts): what it holds, what
-- its registers read, and what a read and a write do.
use Rattle.std.specs.Prelude.{ℕ, Bool, not, if◌then◌else◌, ◌==◌, ◌&&◌, ◌||◌, bit_or, List, ◌∷◌, ◌-◌, slice_index, slice_set, replicate, nat_lt}
use Rattle.r3k_word.specs.Word.{field_of, has}
use Rattle.mc146818.specs.declared.registers.TheConstants.{SECONDS, SECONDS_ALARM, MINUTES, MINUTES_ALARM, HOURS, HOURS_ALARM, WEEKDAY, DAY, MONTH, YEAR, REGISTER_A, REGISTER_B, REGISTER_C, RAM, RAM_BYTES, UIP, DV_RUNS, SET, PIE, AIE, UIE, DSE, IRQF, PF, AF, UF, VRT}
use Rattle.mc146818.specs.declared.time.Time.{Time}
use Rattle.mc146818.specs.declared.time.Alarm.{Alarm}
use Rattle.mc146818.specs.Bits.{without}
use Rattle.mc146818.specs.Divider.{is_near_end}

-- Registers 0, 2, 4 and 6 to 9 are the time, and 1, 3 and 5 the alarm. Of A all but UIP is held, and
-- of C the flags PF, AF and UF; D is constant. Then come 50 bytes of RAM. The divider (own) is the
-- ticks of this second so far, and the unit the ticks of 1/8192 second.
pub record ClockState : Type 0 where
  pub time : Time
  pub alarm : Alarm
  pub a : ℕ
  pub b : ℕ
  pub flags : ℕ
  pub ram : List ℕ
  pub divider : ℕ
  pub unit : ℕ

-- the clock with these registers 0 to 11; all else is 0 (own)
abbrev pub started : List ℕ → ℕ → ClockState
started start unit = record {
  time = record {
    seconds = slice_index start SECONDS;
    minutes = slice_index start MINUTES;
    hours = slice_index start HOURS;
    weekday = slice_index start WEEKDAY;
    day = slice_index start DAY;
    month = slice_index start MONTH;
    year = slice_index start YEAR;
  };
  alarm = record {
    seconds = slice_index start SECONDS_ALARM;
    minutes = slice_index start MINUTES_ALARM;
    hours = slice_index start HOURS_ALARM;
  };
  a = slice_index start REGISTER_A;
  b = slice_index start REGISTER_B;
  flags = 0;
  ram = replicate RAM_BYTES 0;
  divider = 0;
  unit = unit;
}

-- the divider runs: DV, bits 6 to 4 of A, is 2
abbrev pub runs : ClockState → Bool
runs clock = field_of 6 4 clock.a == DV_RUNS

-- the rate of the periodic interrupt: RS, bits 3 to 0 of A
abbrev pub rate : ClockState → ℕ
rate clock = field_of 3 0 clock.a

-- SET of B: the time is being set, and there is no update
abbrev pub is_set : ClockState → Bool
is_set clock = has clock.b SET

-- UIP, update in progress
abbrev pub is_updating : ClockState → Bool
is_updating clock = runs clock && not (is_set clock) && is_near_end clock.unit clock.divider

-- the line, and IRQF of C: a flag and its enable are both 1. IRQF is not held: at any time it
-- follows the flags and enables
abbrev pub requests_interrupt : ClockState → Bool
requests_interrupt clock =
    (has clock.flags PF && has clock.b PIE) || (has clock.flags AF && has clock.b AIE) || (has clock.flags UF && has clock.b UIE)

-- what registers A and C read
abbrev pub register_a : ClockState → ℕ
register_a clock = if is_updating clock then bit_or clock.a UIP else clock.a

abbrev pub register_c : ClockState → ℕ
register_c clock = if requests_interrupt clock then bit_or clock.flags IRQF else clock.flags

-- what the 64 registers read, in order
abbrev pub registers : ClockState → List ℕ
registers clock =
    clock.time.seconds ∷ clock.alarm.seconds ∷ clock.time.minutes ∷ clock.alarm.minutes ∷ clock.time.hours ∷ clock.alarm.hours
    ∷ clock.time.weekday ∷ clock.time.day ∷ clock.time.month ∷ clock.time.year
    ∷ register_a clock ∷ clock.b ∷ register_c clock ∷ VRT ∷ clock.ram

-- the clock after a register was read: reading C clears its flags
abbrev pub after_read : ClockState → ℕ → ClockState
after_read clock register = if register == REGISTER_C then record clock { flags = 0 } else clock

-- a write of A: UIP is read only, and where DV is not 2 the divider is 0 at once
abbrev pub with_a : ClockState → ℕ → ClockState
with_a clock byte =
    let changed = record clock { a = without byte UIP } in
    if runs changed then changed else record changed { divider = 0 }

-- a write of B: daylight saving stays 0 (own), and SET, where it goes from 0 to 1, clears UIE
abbrev pub with_b : ClockState → ℕ → ClockState
with_b clock byte =
    let b = without byte DSE in
    record clock { b = if has byte SET && not (is_set clock) then without b UIE else b }

-- the clock after a register was written: C and D are read only
abbrev pub written : ClockState → (register byte : ℕ) → ClockState
written clock register byte =
    if register == SECONDS then record clock { time = record clock.time { seconds = byte } }
    else (if register == SECONDS_ALARM then record clock { alarm = record clock.alarm { seconds = byte } }
    else (if register == MINUTES then record clock { time = record clock.time { minutes = byte } }
    else (if register == MINUTES_ALARM then record clock { alarm = record clock.alarm { minutes = byte } }
    else (if register == HOURS then record clock { time = record clock.time { hours = byte } }
    else (if register == HOURS_ALARM then record clock { alarm = record clock.alarm { hours = byte } }
    else (if register == WEEKDAY then record clock { time = record clock.time { weekday = byte } }
    else (if register == DAY then record clock { time = record clock.time { day = byte } }
    else (if register == MONTH then record clock { time = record clock.time { month = byte } }
    else (if register == YEAR then record clock { time = record clock.time { year = byte } }
    else (if register == REGISTER_A then with_a clock byte
    else (if register == REGISTER_B then with_b clock byte
    else (if nat_lt register RAM then clock
    else record clock { ram = slice_set clock.ram (register - RAM) byte }))))))))))))
