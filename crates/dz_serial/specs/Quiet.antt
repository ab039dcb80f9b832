-- Quiet ticks (own): those that only count, so that many can pass at once.
use Rattle.std.specs.Prelude.{ℕ, zero, suc, ◌-◌, not, ◌&&◌, List, [], ◌∷◌, map, min, slice_index, if◌then◌else◌}
use Rattle.dz_serial.specs.declared.quiet.TheConstants.{FOREVER}
use Rattle.dz_serial.specs.Serial.{Serial, entry_of}
use Rattle.dz_serial.specs.Scan.{scan_order, ticked}

-- the part after n ticks
unfoldable pub after : ℕ → Serial → Serial
after zero s = s
after (suc n) s = ticked (after n s)

-- the part after n ticks that only count
abbrev pub passed : ℕ → Serial → Serial
passed n s = record s { busy = map (λ count. count - n) s.busy }

-- how many ticks pass before the one after which a line can take a byte: never, if it is not enabled
abbrev pub quiet_line : Serial → ℕ → ℕ
quiet_line s line = if entry_of s.enabled line then slice_index s.busy line - 1 else FOREVER

-- the least of these over the lines
abbrev pub quiet_lines : Serial → List ℕ → ℕ
quiet_lines s [] = FOREVER
quiet_lines s (line ∷ later) = min (quiet_line s line) (quiet_lines s later)

-- How many ticks from now only count: those before the next one that raises TRDY. No tick does
-- where the scanner does not go on, or comes to no line.
unfoldable pub quiet_of : Serial → ℕ
quiet_of s = if s.mse && not s.trdy then quiet_lines s (scan_order s.last_served) else FOREVER
