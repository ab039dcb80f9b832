-- The isolated cache (Kane and Heinrich, chapter 5; two arrays of 16,384 slots of one word are
-- own): each array is the list of its slots.
use Rattle.std.specs.Prelude.{ℕ, ◌/◌, ◌%◌, Bool, true, false, nat_eq, ◌&&◌}
use Rattle.std.specs.Prelude.{List, replicate, slice_index_or, slice_set}
use Rattle.dcache.specs.declared.slot.Slot.{Slot}
use Rattle.dcache.specs.declared.slot.TheConstants.{SLOTS, TAG_BYTES}

-- the two arrays, each the list of its slots
pub record Arrays : Type 0 where
  pub first : List Slot
  pub second : List Slot

-- a slot that holds nothing: at reset (own) each is
abbrev pub empty_slot : Slot
empty_slot = record { word = 0; tag = 0; valid = false }

abbrev pub reset_arrays : Arrays
reset_arrays = record { first = replicate SLOTS empty_slot; second = replicate SLOTS empty_slot }

-- the slot's number and the tag of a physical address (own)
abbrev pub place_of : ℕ → ℕ
place_of address = address / 4 % SLOTS

abbrev pub tag_of : ℕ → ℕ
tag_of address = address / TAG_BYTES

-- the array that an access reaches: SwC chooses the second
abbrev pub array_of : Arrays → Bool → List Slot
array_of arrays false = arrays.first
array_of arrays true = arrays.second

-- the slot of an address
abbrev pub slot_of : Arrays → Bool → ℕ → Slot
slot_of arrays second address =
    slice_index_or (array_of arrays second) (place_of address) empty_slot

-- a hit: the slot is valid and has the address's tag
abbrev pub hits : Slot → ℕ → Bool
hits slot address = slot.valid && nat_eq slot.tag (tag_of address)

-- the arrays with another slot at an address
abbrev pub with_slot : Arrays → Bool → ℕ → Slot → Arrays
with_slot arrays false address slot =
    record arrays { first = slice_set arrays.first (place_of address) slot }
with_slot arrays true address slot =
    record arrays { second = slice_set arrays.second (place_of address) slot }

-- the slot after a store of a whole word: word and tag, and valid
abbrev pub filled : ℕ → ℕ → Slot
filled address word = record { word = word; tag = tag_of address; valid = true }

-- the slot after a store of a part of a word (own): no longer valid, its word and tag stay
abbrev pub emptied : Slot → Slot
emptied slot = record slot { valid = false }
