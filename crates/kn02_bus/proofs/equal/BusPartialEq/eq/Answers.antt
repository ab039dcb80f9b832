-- The tests decide equality.
use Rattle.std.proofs.Common.{refl}
use Rattle.std.proofs.lemmas.Bool.Decides.{Decides-at}
use Rattle.dz_serial.specs.Same as serial_same
use Rattle.kn02_bus.specs.Same.{is_same, is_same_decides}
use Rattle.kn02_bus.proofs.equal.BusPartialEq.eq.Goals as goal

pub returns-clause-value : goal.returns-clause-value
unfolding is_same serial_same.is_same
returns-clause-value c = rw (c.eq.ensures, c.now.ensures, c.now-2.ensures) refl

pub returns-clause-equal : goal.returns-clause-equal
returns-clause-equal c =
    let value = returns-clause-value c in
    Decides-at c.eq.result (is_same c.args.self.now c.args.other.now) value (is_same_decides c.args.self.now c.args.other.now)
