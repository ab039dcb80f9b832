-- The words of memory that a session shows (own).
use Rattle.std.specs.Prelude.{ℕ, zero, suc, ◌+◌, ◌*◌, ◌%◌, ◌==◌, List, [], ◌∷◌, ◌++◌, Option, Some, None, Result, Err, if◌then◌else◌}
use Rattle.std.specs.Option.{ok_or}
use Rattle.r3k_word.specs.Layout.{place_of_word}
use Rattle.refusal.specs.declared.fault.Fault.{Fault}
use Rattle.refusal.specs.declared.fault.Fault.TheVariants.{Unaligned, NotMemory}

-- the place of one more word after others, where all are there
abbrev pub place_after : Option (List ℕ) → Option ℕ → Option (List ℕ)
place_after (Some places) (Some place) = Some (places ++ place ∷ [])
place_after (Some places) None = None
place_after None place = None

-- the places of `count` words from an address on, where all are words of RAM or ROM
unfoldable pub places_from : (pages address count : ℕ) → Option (List ℕ)
places_from pages address zero = Some []
places_from pages address (suc count) = place_after (places_from pages address count) (place_of_word pages (address + 4 * count))

-- those places, or why the words can't be shown: Unaligned comes before NotMemory
abbrev pub places_of : (pages address count : ℕ) → Result (List ℕ) Fault
places_of pages address count = if address % 4 == 0 then ok_or (places_from pages address count) NotMemory else Err Unaligned
