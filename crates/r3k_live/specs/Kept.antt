-- A step as it is kept (own): one more than its number, and 0 where there is none.
use Rattle.std.specs.Prelude.{ℕ, ◌+◌, Option, Some, None}

abbrev pub kept_step : Option ℕ → ℕ
kept_step None = 0
kept_step (Some step) = step + 1
