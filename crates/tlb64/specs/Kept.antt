-- Lookups that are kept (own), so that a page that was looked up before needs no search: each is what the lookup gives.
use Rattle.std.specs.Prelude.{◌≡◌, ℕ, ◌+◌, ◌*◌, false, List, length, Some}
use Rattle.std.specs.List.{All}
use Rattle.tlb64.specs.declared.entry.Entry.{Entry}
use Rattle.tlb64.specs.declared.entry.Found.{Found}
use Rattle.tlb64.specs.declared.kept.Kept.{Kept}
use Rattle.tlb64.specs.declared.kept.TheConstants.{KEPT}
use Rattle.tlb64.specs.Entries.{page_of, process_of}
use Rattle.tlb64.specs.Lookup.{lookup_of}

-- the page of an address and the process of EntryHi as one number
abbrev pub tag_of : ℕ → ℕ → ℕ
tag_of address hi = page_of address * 4096 + process_of hi

-- just one entry is for an address and the process of EntryHi, and this is its EntryLo
pub record IsSole (entries : List Entry) (address hi lo : ℕ) : Type 0 where
  pub found : Found
  pub is : lookup_of entries address (process_of hi) ≡ Some found
  pub low : found.entry.lo ≡ lo
  pub sole : found.several ≡ false

-- what is kept is what the lookup gives for each address and process of the tag
abbrev pub IsOf : List Entry → Kept → Type 0
IsOf entries kept = (address hi : ℕ) → kept.tag ≡ tag_of address hi → IsSole entries address hi kept.lo

pub record AreOf (entries : List Entry) (kept : List Kept) : Type 0 where
  pub count : length kept ≡ KEPT
  pub each : All (IsOf entries) kept
