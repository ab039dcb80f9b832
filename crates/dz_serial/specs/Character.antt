-- A received character (KN02 functional specification, after the DZ11).
use Rattle.std.specs.Prelude.{ℕ, Bool}

-- its line, its byte, whether bytes of the line were lost just before it, and whether it has a
-- framing error
pub record Character : Type 0 where
  pub line : ℕ
  pub byte : ℕ
  pub overrun : Bool
  pub framing : Bool
