-- Equality of translation entries (own): the words of all are equal.
use Rattle.std.specs.Prelude.{◌≡◌, Bool, ◌&&◌, nat_eq, List, Decides}
use Rattle.std.specs.Cmp.Lexicographic.{pointwise, pointwise_decides}
use Rattle.std.proofs.Common.{rules}
use Rattle.tlb64.specs.declared.entry.Entry.{Entry}

abbrev pub is_same_entry : Entry → Entry → Bool
is_same_entry a b = nat_eq a.hi b.hi && nat_eq a.lo b.lo

abbrev pub is_same : List Entry → List Entry → Bool
is_same = pointwise is_same_entry

is_same_entry_decides : (a b : Entry) → Decides (is_same_entry a b) (a ≡ b)
is_same_entry_decides a b = search rules

pub is_same_decides : (a b : List Entry) → Decides (is_same a b) (a ≡ b)
is_same_decides = pointwise_decides is_same_entry_decides
