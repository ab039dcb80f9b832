-- The transmitter's scanner (KN02 functional specification; busy counts in ticks and the order of
-- lines are own).
use Rattle.std.specs.Prelude.{ℕ, ◌+◌, ◌-◌, ◌%◌, Bool, true, not, ◌==◌, ◌&&◌, List, [], ◌∷◌, map, find, slice_index, Option, Some, None, if◌then◌else◌}
use Rattle.dz_serial.specs.Serial.{Serial, entry_of}

-- each busy count above 0 falls by one
abbrev pub counted_down : Serial → Serial
counted_down s = record s { busy = map (λ count. count - 1) s.busy }

-- a line can take a byte: it is enabled and sends none
abbrev pub is_ready : Serial → ℕ → Bool
is_ready s line = entry_of s.enabled line && (slice_index s.busy line == 0)

-- the four lines upward from the one after the last served, cyclic
abbrev pub scan_order : ℕ → List ℕ
scan_order served = (served + 1) % 4 ∷ (served + 2) % 4 ∷ (served + 3) % 4 ∷ served ∷ []

-- the line that the scanner comes to
abbrev pub next_ready : Serial → Option ℕ
next_ready s = find (is_ready s) (scan_order s.last_served)

-- the scanner stops at a line
abbrev pub offered : Serial → Option ℕ → Serial
offered s None = s
offered s (Some line) = record s { tline = line; trdy = true }

-- the scanner goes on only if MSE is 1 and TRDY 0
abbrev pub scanned : Serial → Serial
scanned s = if s.mse && not s.trdy then offered s (next_ready s) else s

-- a tick: the busy counts fall, and then the scanner goes on
unfoldable pub ticked : Serial → Serial
ticked s = scanned (counted_down s)
