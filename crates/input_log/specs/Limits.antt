-- The limits of a log (own).
use Rattle.std.specs.Prelude.{ℕ, ◌-◌}

-- the most events of a log: 2^20
abbrev pub max_events : ℕ
max_events = 1048576

-- the greatest position of a run: 2^40 - 1
abbrev pub max_position : ℕ
max_position = 1099511627775

-- the greatest time of an event: that of the last step of a run to the greatest position
abbrev pub max_time : ℕ
max_time = max_position - 1
