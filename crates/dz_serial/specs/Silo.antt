-- The silo (KN02 functional specification; that a lost byte's mark stays until a byte of its line
-- is stored is own).
use Rattle.std.specs.Prelude.{ℕ, Bool, true, false, not, ◌==◌, ◌&&◌, nat_lt, [], ◌∷◌, ◌++◌, length, drop, slice_set, if◌then◌else◌}
use Rattle.dz_serial.specs.declared.silo.TheConstants.{SILO}
use Rattle.dz_serial.specs.Serial.{Serial, each_line, entry_of}

-- RDONE: the silo is not empty
abbrev pub rdone : Serial → Bool
rdone s = not (length s.silo == 0)

-- A byte is stored where the silo has room, with or without a framing error and with the mark of
-- lost bytes of its line, which is then gone. Where it is full it is lost, and its line marked.
abbrev pub stored : Serial → (line byte : ℕ) → (framing : Bool) → Serial
stored s line byte framing =
    if nat_lt (length s.silo) SILO
    then record s {
      silo = s.silo ++ record { line = line; byte = byte; overrun = entry_of s.lost line; framing = framing } ∷ [];
      lost = slice_set s.lost line false;
    }
    else record s { lost = slice_set s.lost line true }

-- What arrives is taken only if MSE is 1 and its line's receiver is on.
abbrev pub taken : Serial → (line byte : ℕ) → (framing : Bool) → Serial
taken s line byte framing = if s.mse && entry_of s.receivers line then stored s line byte framing else s

-- a byte arrives
unfoldable pub arrived : Serial → ℕ → ℕ → Serial
arrived s line byte = taken s line byte false

-- a byte with a framing error arrives
unfoldable pub arrived_framing : Serial → ℕ → ℕ → Serial
arrived_framing s line byte = taken s line byte true

-- the oldest character is removed
abbrev pub without_oldest : Serial → Serial
without_oldest s = record s { silo = drop 1 s.silo }

-- the scanner is off: nothing is ready to send, and the silo is empty, with no mark of lost bytes
abbrev pub scanner_off : Serial → Serial
scanner_off s = record s { trdy = false; silo = []; lost = each_line false }
