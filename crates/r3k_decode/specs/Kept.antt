-- A field of an instruction, by whether its shape has it (own).
use Rattle.std.specs.Prelude.{◌≡◌, ℕ, Bool, true, false, if◌then◌else◌}

-- a field that is there, or else 0
abbrev pub kept : Bool → ℕ → ℕ
kept has field = if has then field else 0

-- a field is 0 where it is not there
abbrev pub IsZeroUnless : Bool → ℕ → Type 0
IsZeroUnless true field = Unit {0}
IsZeroUnless false field = field ≡ 0
