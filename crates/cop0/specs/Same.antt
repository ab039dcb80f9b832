-- Equality of control registers (own): all of them are equal.
use Rattle.std.specs.Prelude.{◌≡◌, Bool, ◌&&◌, nat_eq, Decides}
use Rattle.std.proofs.Common.{rules}
use Rattle.cop0.specs.Registers.{Registers}

abbrev pub is_same : Registers → Registers → Bool
is_same a b =
    nat_eq a.index b.index && nat_eq a.random b.random && nat_eq a.entry_lo b.entry_lo && nat_eq a.context b.context
    && nat_eq a.bad_vaddr b.bad_vaddr && nat_eq a.entry_hi b.entry_hi && nat_eq a.status b.status && nat_eq a.cause b.cause
    && nat_eq a.epc b.epc

pub is_same_decides : (a b : Registers) → Decides (is_same a b) (a ≡ b)
is_same_decides a b = search rules
