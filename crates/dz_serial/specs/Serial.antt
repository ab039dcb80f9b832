-- What the four-line serial part holds (KN02 functional specification, after the DZ11; byte time
-- and busy counts are own).
use Rattle.std.specs.Prelude.{ℕ, Bool, false, List, [], ◌∷◌, slice_index_or}
use Rattle.dz_serial.specs.Character.{Character}

-- what the part holds; lists of four have an entry for each line
pub record Serial : Type 0 where
  -- the characters received and not yet read, the oldest first
  pub silo : List Character
  -- whether a byte of the line was lost since the last one stored
  pub lost : List Bool
  -- whether the line's receiver is on
  pub receivers : List Bool
  -- whether the line may send
  pub enabled : List Bool
  -- for how many ticks the line still sends
  pub busy : List ℕ
  -- TLINE and TRDY: the line that the scanner stopped at, and whether it waits there for a byte
  pub tline : ℕ
  pub trdy : Bool
  -- interrupt enables of transmitter and receiver, master scan enable, maintenance mode
  pub tie : Bool
  pub rie : Bool
  pub mse : Bool
  pub maint : Bool
  -- the line that a byte was last sent on
  pub last_served : ℕ
  -- for how many ticks a line sends a byte
  pub byte_time : ℕ

-- the same of each of the four lines
abbrev pub each_line : {X : Type 0} → X → List X
each_line x = x ∷ x ∷ x ∷ x ∷ []

-- a line's entry in a list of four
abbrev pub entry_of : List Bool → ℕ → Bool
entry_of entries line = slice_index_or entries line false

-- the part at reset (own where the specification leaves a register open)
abbrev pub reset_serial : ℕ → Serial
reset_serial byte_time = record {
  silo = [];
  lost = each_line false;
  receivers = each_line false;
  enabled = each_line false;
  busy = each_line 0;
  tline = 0;
  trdy = false;
  tie = false;
  rie = false;
  mse = false;
  maint = false;
  last_served = 0;
  byte_time = byte_time;
}
