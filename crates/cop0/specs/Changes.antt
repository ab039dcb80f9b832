-- What interrupts, translation and the isolated cache do to the registers (Kane and Heinrich, chapters 4 to 6).
use Rattle.std.specs.Prelude.{◌≡◌, IsFalse, ℕ, zero, suc, ◌+◌, ◌-◌, ◌*◌, ◌^◌, Bool, Option, Some, None, ◌==◌, ◌&&◌, if◌then◌else◌, bit_and, bit_or}
use Rattle.r3k_word.specs.Word.{with_field_of, has, flag, merged}
use Rattle.cop0.specs.declared.number.TheConstants.{ENTRY_HI_MASK, ENTRY_LO_MASK}
use Rattle.cop0.specs.declared.status.TheConstants.{TS, CM, IEC, INTERRUPTS}
use Rattle.cop0.specs.Registers.{Registers}
use Rattle.cop0.specs.Status.{in_user_mode, is_isolated, popped}

-- Cause bit 10 is the board's line, and bit 11 the clock's (own)
abbrev pub sampled : Registers → (board clock : Bool) → Registers
sampled c board clock = record c { cause = with_field_of 11 10 c.cause (2 * flag clock + flag board) }

-- an interrupt is taken where IEc is 1, and a bit of IP and its mask bit are both 1
abbrev pub is_wanted : Registers → Bool
is_wanted c = has c.status IEC && has (bit_and c.cause c.status) INTERRUPTS

-- A change leaves the mode and the isolation of the cache as they are, and no interrupt is wanted after it (own).
pub record StaysQuiet (before after : Registers) : Type 0 where
  pub user : in_user_mode after ≡ in_user_mode before
  pub isolated : is_isolated after ≡ is_isolated before
  pub unwanted : IsFalse (is_wanted after)

-- Random after it falls by one, from 8 to 63
abbrev pub random_below : ℕ → ℕ
random_below random = if random == 8 then 63 else random - 1

-- the registers after Random falls by one
abbrev pub fallen : Registers → Registers
fallen c = record c { random = random_below c.random }

-- Random after it falls n times
unfoldable pub random_after : ℕ → ℕ → ℕ
random_after zero random = random
random_after (suc n) random = random_below (random_after n random)

-- the registers after Random falls n times
abbrev pub fallen_by : ℕ → Registers → Registers
fallen_by n c = record c { random = random_after n c.random }

-- rfe: the previous mode and enable become the present ones, and the old ones the previous
abbrev pub returned : Registers → Registers
returned c = record c { status = popped c.status }

-- TS stays set until reset, and CM says whether a load missed
abbrev pub with_ts : Registers → Registers
with_ts c = record c { status = bit_or c.status TS }

abbrev pub with_cm : Registers → Bool → Registers
with_cm c miss = record c { status = merged CM c.status (if miss then CM else 0) }

-- Index after a probe: the entry in bits 13 to 8, or P, bit 31
abbrev pub probed : Registers → Option ℕ → Registers
probed c None = record c { index = 2 ^ 31 }
probed c (Some entry) = record c { index = entry * 2 ^ 8 }

-- EntryHi and EntryLo hold the fields of an entry
abbrev pub loaded : Registers → (hi lo : ℕ) → Registers
loaded c hi lo = record c { entry_hi = bit_and hi ENTRY_HI_MASK; entry_lo = bit_and lo ENTRY_LO_MASK }
