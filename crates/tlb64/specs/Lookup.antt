-- The lookup in a list of entries (Kane and Heinrich, chapter 4; that the lowest is found where
-- several match is own).
use Rattle.std.specs.Prelude.{ℕ, nat_lt}
use Rattle.std.specs.Prelude.{List, Option, position, count_by, slice_index_or}
use Rattle.std.specs.Option.{option_map}
use Rattle.tlb64.specs.declared.entry.Entry.{Entry}
use Rattle.tlb64.specs.declared.entry.Found.{Found}
use Rattle.tlb64.specs.Entries.{matches, process_of, empty_entry}

-- what a lookup gives for the entry at a place: its place, the entry, and whether more than one
-- entry matches
abbrev pub found_at : List Entry → ℕ → ℕ → ℕ → Found
found_at entries address pid place = record {
  index = place;
  entry = slice_index_or entries place empty_entry;
  several = nat_lt 1 (count_by (matches address pid) entries);
}

-- the lowest entry that matches an address and a process
abbrev pub lookup_of : List Entry → ℕ → ℕ → Option Found
lookup_of entries address pid =
    option_map (found_at entries address pid) (position (matches address pid) entries)

-- the same for the page and the process of EntryHi
abbrev pub probe_of : List Entry → ℕ → Option Found
probe_of entries hi = lookup_of entries hi (process_of hi)
