-- Bits of a register's word (KN02 functional specification).
use Rattle.std.specs.Prelude.{ℕ, Bool, if◌then◌else◌}

-- the bits of a mask where they are set, or else 0
abbrev pub flag_of : ℕ → Bool → ℕ
flag_of mask set = if set then mask else 0
