-- What the bus holds, after the KN02 system module: the serial part, the clock, and of the board's lines the enables and the
-- levels of the external ones.
use Rattle.std.specs.Prelude.{ℕ, Bool, false, List, [], ◌∷◌}
use Rattle.dz_serial.specs.Serial.{Serial, reset_serial}
use Rattle.mc146818.specs.Clock.{ClockState, started}

-- Bit k of the enables lets line k of the board raise its interrupt. Lines 0 to 2 are external, and each has its level (own).
pub record BusState : Type 0 where
  pub serial : Serial
  pub clock : ClockState
  pub enables : ℕ
  pub levels : List Bool

-- at reset no line is enabled, and each external one is 0 (own)
abbrev pub reset_bus : (byte_time : ℕ) → (start : List ℕ) → (unit : ℕ) → BusState
reset_bus byte_time start unit = record {
  serial = reset_serial byte_time;
  clock = started start unit;
  enables = 0;
  levels = false ∷ false ∷ false ∷ [];
}
