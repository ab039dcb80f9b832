-- Equality of two pairs of arrays (own): all slots are equal.
use Rattle.std.specs.Prelude.{◌≡◌, Bool, ◌&&◌, nat_eq, Decides}
use Rattle.std.specs.Bool.{beq}
use Rattle.std.specs.Cmp.Lexicographic.{pointwise, pointwise_decides}
use Rattle.std.proofs.Common.{rules}
use Rattle.dcache.specs.declared.slot.Slot.{Slot}
use Rattle.dcache.specs.Arrays.{Arrays}

abbrev pub is_same_slot : Slot → Slot → Bool
is_same_slot a b = nat_eq a.word b.word && nat_eq a.tag b.tag && beq a.valid b.valid

abbrev pub is_same : Arrays → Arrays → Bool
is_same a b = pointwise is_same_slot a.first b.first && pointwise is_same_slot a.second b.second

is_same_slot_decides : (a b : Slot) → Decides (is_same_slot a b) (a ≡ b)
is_same_slot_decides a b = search rules

pub is_same_decides : (a b : Arrays) → Decides (is_same a b) (a ≡ b)
is_same_decides a b =
    let first = pointwise_decides is_same_slot_decides a.first b.first in
    let second = pointwise_decides is_same_slot_decides a.second b.second in
    search (rules, first, second)
