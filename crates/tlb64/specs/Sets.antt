-- The entries by sets (own), so that a lookup need not compare all. Each entry is in the set of its page. A set is a number of 64
-- bits, of which those of its entries' places are 1.
use Rattle.std.specs.Prelude.{◌≡◌, ℕ, ◌*◌, ◌/◌, ◌%◌, ◌^◌, ◌<◌, ◌≤◌}
use Rattle.std.specs.Prelude.{true, false, nat_eq, if◌then◌else◌}
use Rattle.std.specs.Prelude.{List, length, slice_index, slice_index_or}
use Rattle.std.specs.Int.{bit_at}
use Rattle.tlb64.specs.declared.entry.Entry.{Entry}
use Rattle.tlb64.specs.declared.sets.Match.{Match}
use Rattle.tlb64.specs.declared.sets.TheConstants.{SPREAD}
use Rattle.tlb64.specs.Entries.{page_of, matches, empty_entry}

-- the set of a page, by a hash, and that of an address
abbrev pub set_of_page : ℕ → ℕ
set_of_page page = page * SPREAD % 2 ^ 32 / 2 ^ 26

abbrev pub set_of : ℕ → ℕ
set_of address = set_of_page (page_of address)

-- the sets of a list of entries
pub record AreSetsOf (entries : List Entry) (sets : List ℕ) : Type 0 where
  pub entry_count : length entries ≡ 64
  pub set_count : length sets ≡ 64
  pub bits : (set place : ℕ) → set < 64 → place < 64
      → bit_at (slice_index sets set) place
      ≡ (if nat_eq (set_of (slice_index_or entries place empty_entry).hi) set then 1 else 0)

-- no candidate matches
abbrev pub NoneMatches : List Entry → ℕ → ℕ → ℕ → Type 0
NoneMatches entries address pid candidates = (place : ℕ) → place < 64 → bit_at candidates place ≡ 1
    → matches address pid (slice_index_or entries place empty_entry) ≡ false

-- the lowest candidate that matches, and the candidates after it
pub record IsLowestMatch (entries : List Entry) (address pid candidates : ℕ) (found : Match)
    : Type 0 where
  pub within : found.place < 64
  pub candidate : bit_at candidates found.place ≡ 1
  pub here : matches address pid (slice_index_or entries found.place empty_entry) ≡ true
  pub none_before : (place : ℕ) → place < found.place → bit_at candidates place ≡ 1
      → matches address pid (slice_index_or entries place empty_entry) ≡ false
  pub rest_after : (place : ℕ) → found.place < place
      → bit_at found.rest place ≡ bit_at candidates place
  pub rest_before : (place : ℕ) → place ≤ found.place → bit_at found.rest place ≡ 0
