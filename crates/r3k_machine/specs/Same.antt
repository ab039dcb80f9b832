-- Equality of two cores (own): all that they hold is equal.
use Rattle.std.specs.Prelude.{◌≡◌, Bool, ◌&&◌, nat_eq, Decides, Option, Some, None, true, false}
use Rattle.std.specs.Bool.{beq}
use Rattle.std.specs.Cmp.Lexicographic.{pointwise, pointwise_decides}
use Rattle.std.specs.Cmp.{unsigned_Decides}
use Rattle.std.proofs.Common.{rules}
use Rattle.cop0.specs.Same as control
use Rattle.tlb64.specs.Same as entries
use Rattle.dcache.specs.Same as caches
use Rattle.kn02_bus.specs.Same as bus
use Rattle.r3k_machine.specs.LoadSlot.{DelayedLoad}
use Rattle.r3k_machine.specs.Core.{Core}

abbrev pub is_same_load : Option DelayedLoad → Option DelayedLoad → Bool
is_same_load None None = true
is_same_load None (Some b) = false
is_same_load (Some a) None = false
is_same_load (Some a) (Some b) = nat_eq a.register b.register && nat_eq a.value b.value

abbrev pub is_same : Core → Core → Bool
is_same a b =
    pointwise nat_eq a.registers b.registers && nat_eq a.hi b.hi && nat_eq a.lo b.lo && nat_eq a.pc b.pc
    && nat_eq a.next_pc b.next_pc && beq a.delay b.delay && is_same_load a.load b.load && control.is_same a.cop0 b.cop0
    && entries.is_same a.entries b.entries && bus.is_same a.bus b.bus && caches.is_same a.caches b.caches

is_same_load_decides : (a b : Option DelayedLoad) → Decides (is_same_load a b) (a ≡ b)
is_same_load_decides None None = search rules
is_same_load_decides None (Some b) = search rules
is_same_load_decides (Some a) None = search rules
is_same_load_decides (Some a) (Some b) = search rules

pub is_same_decides : (a b : Core) → Decides (is_same a b) (a ≡ b)
is_same_decides a b =
    let registers = pointwise_decides unsigned_Decides a.registers b.registers in
    let load = is_same_load_decides a.load b.load in
    let cop0 = control.is_same_decides a.cop0 b.cop0 in
    let entries = entries.is_same_decides a.entries b.entries in
    let caches = caches.is_same_decides a.caches b.caches in
    let bus = bus.is_same_decides a.bus b.bus in
    search (rules, registers, load, cop0, entries, caches, bus)
