-- Bits of a register (MC146818 data sheet, registers A to D). Each has a mask, as SET, 0x80.
use Rattle.std.specs.Prelude.{ℕ, ◌-◌, bit_and}

-- the byte with this bit 0
abbrev pub without : (byte bit : ℕ) → ℕ
without byte bit = bit_and byte (255 - bit)
