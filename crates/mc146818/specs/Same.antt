-- Equality of clocks (own): all that they hold is equal.
use Rattle.std.specs.Prelude.{◌≡◌, Bool, ◌&&◌, nat_eq, Decides}
use Rattle.std.specs.Cmp.Lexicographic.{pointwise}
use Rattle.std.proofs.Common.{rules}
use Rattle.mc146818.specs.declared.time.Time.{Time}
use Rattle.mc146818.specs.declared.time.Alarm.{Alarm}
use Rattle.mc146818.specs.Clock.{ClockState}

abbrev pub is_same_time : Time → Time → Bool
is_same_time a b =
    nat_eq a.seconds b.seconds && nat_eq a.minutes b.minutes && nat_eq a.hours b.hours && nat_eq a.weekday b.weekday
    && nat_eq a.day b.day && nat_eq a.month b.month && nat_eq a.year b.year

abbrev pub is_same_alarm : Alarm → Alarm → Bool
is_same_alarm a b = nat_eq a.seconds b.seconds && nat_eq a.minutes b.minutes && nat_eq a.hours b.hours

abbrev pub is_same : ClockState → ClockState → Bool
is_same a b =
    nat_eq a.divider b.divider && nat_eq a.unit b.unit && nat_eq a.a b.a && nat_eq a.b b.b && nat_eq a.flags b.flags
    && is_same_time a.time b.time && is_same_alarm a.alarm b.alarm && pointwise nat_eq a.ram b.ram

pub is_same_decides : (a b : ClockState) → Decides (is_same a b) (a ≡ b)
is_same_decides a b = search rules
