use Rattle.std.proofs.Common.{◌≡◌, ◌*◌, ◌%◌, ◌^◌, arith, refl}
use Rattle.cop0.proofs.cop0.Cop0.read.Goals as goal

pub returns-in-1 : goal.returns-in-1
returns-in-1 c =
    let shifted : c.self.inside.random * 256 % 2 ^ 32 ≡ c.self.inside.random * 256 = omega (arith, c.self.invariant.1) in
    rw (c.in-1.is, ← c.self.view_is, shifted) refl
