-- Equality of buses (own): all that they hold is equal.
use Rattle.std.specs.Prelude.{◌≡◌, Bool, ◌&&◌, nat_eq, Decides}
use Rattle.std.proofs.Common.{rules}
use Rattle.std.specs.Bool.{beq}
use Rattle.std.specs.Cmp.{booleans_Decides}
use Rattle.std.specs.Cmp.Lexicographic.{pointwise, pointwise_decides}
use Rattle.dz_serial.specs.Same as serial_same
use Rattle.mc146818.specs.Same as clock_same
use Rattle.kn02_bus.specs.State.{BusState}

unfoldable pub is_same : BusState → BusState → Bool
is_same a b =
    serial_same.is_same a.serial b.serial && (clock_same.is_same a.clock b.clock && (nat_eq a.enables b.enables
    && pointwise beq a.levels b.levels))

pub is_same_decides : (a b : BusState) → Decides (is_same a b) (a ≡ b)
unfolding is_same
is_same_decides a b =
    let serial = serial_same.is_same_decides a.serial b.serial in
    let clock = clock_same.is_same_decides a.clock b.clock in
    let levels = pointwise_decides booleans_Decides a.levels b.levels in
    search (rules, serial, clock, levels)
