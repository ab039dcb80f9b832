-- How the words of pages are kept decoded (own).
use Rattle.std.specs.Prelude.{◌≡◌, ℕ, ◌+◌, ◌-◌, ◌*◌, ◌%◌, ◌<◌, Bool, IsTrue, List, length, nat_eq, nat_lt, slice_index, slice_index_or, if◌then◌else◌}
use Rattle.r3k_decode.specs.Operation.{Operation}
use Rattle.r3k_word.specs.declared.layout.TheConstants.{PAGE_WORDS, ROM_PAGES}
use Rattle.r3k_machine.specs.Known.{IsKnown, IsStop}
use Rattle.r3k_live.specs.declared.flat.TheConstants.{RAM_SLOTS, SLOTS, SLOT_WORDS, UNUSED}

-- The slot of a page: for one of RAM its number modulo those of RAM, and for each of ROM one of its own.
abbrev pub slot_of : (pages page : ℕ) → ℕ
slot_of pages page = if nat_lt page pages then page % RAM_SLOTS else RAM_SLOTS + (page - pages)

-- whether a page is open: its slot has one more than its number
abbrev pub is_open : (pages : ℕ) → List ℕ → ℕ → Bool
is_open pages opened page = nat_eq (slice_index opened (slot_of pages page)) (page + 1)

-- what is kept of a word of a page, by its number there, if that page is open
abbrev pub known_at : (pages : ℕ) → List Operation → Operation → (page index : ℕ) → Operation
known_at pages known default page index = slice_index_or known (slot_of pages page * SLOT_WORDS + index) default

-- What is kept of the words of open pages is known of them. Nothing is known after the last word of a slot, and where no page was open yet.
pub record AreKnown (pages : ℕ) (words : List ℕ) (known : List Operation) (opened : List ℕ) : Type 0 where
  pub room : length known ≡ SLOTS * SLOT_WORDS + 1
  pub slots : length opened ≡ SLOTS
  pub each : (page index : ℕ) (d : Operation) → page < pages + ROM_PAGES → index < PAGE_WORDS → IsTrue (is_open pages opened page)
      → IsKnown (slice_index words (page * PAGE_WORDS + index)) (slice_index_or known (slot_of pages page * SLOT_WORDS + index) d)
  pub past : (slot : ℕ) (d : Operation) → slot < SLOTS → IsStop (slice_index_or known (slot * SLOT_WORDS + PAGE_WORDS) d)
  pub unused : (slot index : ℕ) (d : Operation) → slot < SLOTS → index < SLOT_WORDS → slice_index opened slot ≡ UNUSED
      → IsStop (slice_index_or known (slot * SLOT_WORDS + index) d)
