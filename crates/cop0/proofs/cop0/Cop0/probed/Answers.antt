use Rattle.std.proofs.Common.{◌≡◌, ◌*◌, ◌%◌, ◌^◌, arith, refl}
use Rattle.cop0.proofs.cop0.Cop0.probed.Goals.{in-Some, in-None}
use Rattle.cop0.proofs.cop0.Cop0.probed.Goals as goal

pub returns : goal.returns
returns c =
    elim c.match-found.branch [
      | in-Some w ↦ let within = (rw w.in-Some.is at c.requires) in
          let shifted : w.in-Some.index * 256 % 2 ^ 32 ≡ w.in-Some.index * 256 = omega (arith, within) in
          rw (w.self-is, w.in-Some.is, ← c.self.view_is, shifted) refl
      | in-None w ↦ rw (w.self-is, w.in-None.is, ← c.self.view_is) refl
    ]
