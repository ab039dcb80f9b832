-- The load slot, after Kane and Heinrich, chapter 1: a load's value is for the instruction after the next one.
use Rattle.std.specs.Prelude.{ℕ, Option, Some, None, ◌==◌, if◌then◌else◌}

-- a load whose value has not landed yet
pub record DelayedLoad : Type 0 where
  pub register : ℕ
  pub value : ℕ

-- the slot after a load. One for r0 leaves it empty
abbrev pub slot_after_load : (number value : ℕ) → Option DelayedLoad
slot_after_load number value = if number == 0 then None else Some (record { register = number; value = value })
