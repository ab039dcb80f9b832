-- A translation entry (Kane and Heinrich, chapter 4): EntryHi with VPN 31..12 and PID 11..6, and
-- EntryLo with G 8.
use Rattle.std.specs.Prelude.{ℕ, Bool, nat_eq, ◌&&◌, ◌||◌, List, replicate}
use Rattle.r3k_word.specs.Word.{field_of, has}
use Rattle.tlb64.specs.declared.entry.Entry.{Entry}
use Rattle.tlb64.specs.declared.entry.TheConstants.{GLOBAL}

-- the virtual page number of an address, as of EntryHi
abbrev pub page_of : ℕ → ℕ
page_of address = field_of 31 12 address

-- the process of EntryHi
abbrev pub process_of : ℕ → ℕ
process_of hi = field_of 11 6 hi

-- An entry matches an address and a process if its page is the address's and it is global or of the
-- process. No entry is of a process above 63.
abbrev pub matches : ℕ → ℕ → Entry → Bool
matches address pid entry =
    nat_eq (page_of entry.hi) (page_of address)
    && (has entry.lo GLOBAL || nat_eq (process_of entry.hi) pid)

-- an entry at reset (own)
abbrev pub empty_entry : Entry
empty_entry = record { hi = 0; lo = 0 }

-- the entries at reset
abbrev pub reset_entries : List Entry
reset_entries = replicate 64 empty_entry
