-- The isolated cache, after Kane and Heinrich, chapter 5: with IsC a cacheable load or store goes to a slot, and memory sees nothing.
use Rattle.std.specs.Prelude.{ℕ, Bool, not, ◌&&◌}
use Rattle.cop0.specs.Changes.{with_cm}
use Rattle.cop0.specs.Status as status
use Rattle.dcache.specs.Arrays.{slot_of, hits, with_slot, filled, emptied}
use Rattle.dcache.specs.declared.slot.Slot.{Slot}
use Rattle.r3k_exec.specs.declared.access.StoreKind.{StoreKind}
use Rattle.r3k_exec.specs.declared.access.StoreKind.TheVariants as store
use Rattle.r3k_machine.specs.declared.address.Physical.{Physical}
use Rattle.r3k_machine.specs.Core.{Core}

abbrev pub is_isolated : Core → Physical → Bool
is_isolated core physical = physical.cacheable && status.is_isolated core.cop0

-- the slot of a physical address, in the array that SwC chooses
abbrev pub slot_at : Core → ℕ → Slot
slot_at core address = slot_of core.caches (status.is_swapped core.cop0) address

-- A load gives the slot's word, hit or miss, and CM says whether it missed.
abbrev pub with_isolated_load : Core → ℕ → Core
with_isolated_load core address = record core { cop0 = with_cm core.cop0 (not (hits (slot_at core address) address)) }

-- sw fills the slot, and a store of a part of a word makes it invalid, whatever bytes it covers
abbrev pub slot_after_store : Slot → StoreKind → (address value : ℕ) → Slot
slot_after_store slot store.Word address value = filled address value
slot_after_store slot kind address value = emptied slot

abbrev pub with_isolated_store : Core → StoreKind → (address value : ℕ) → Core
with_isolated_store core kind address value = record core {
  caches = with_slot core.caches (status.is_swapped core.cop0) address (slot_after_store (slot_at core address) kind address value);
}
