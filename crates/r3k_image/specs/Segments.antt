-- The segments of an image (own): words at consecutive addresses, in ascending order and apart.
use Rattle.std.specs.Prelude.{◌≡◌, ℕ, ◌+◌, ◌*◌, ◌%◌, ◌^◌, ◌<◌, Bool, List, [], ◌∷◌, length, map, flat_map, All, IsTrue, Option, Some, None, unwrap_or, nat_lt, nat_le, ◌==◌, ◌&&◌, ◌||◌, if◌then◌else◌}
use Rattle.std.specs.Ordering.{nat_cmp}
use Rattle.std.specs.FinMap.{FinMap, from_entries}
use Rattle.r3k_word.specs.declared.layout.TheConstants.{ROM_START}
use Rattle.r3k_image.specs.declared.segment.Segment.{Segment}
use Rattle.r3k_image.specs.Boot.{Boot, ram_end, rom_end, IsConstant, IsClockStart}

-- a segment: the words from an address on
pub record WordsAt : Type 0 where
  pub address : ℕ
  pub words : List ℕ

-- a segment of the program, but not where the program's memory has it
abbrev pub view : Segment → WordsAt
view s = record { address = s.address; words = s.words.items }

abbrev pub views : List Segment → List WordsAt
views ss = map view ss

-- the address after `count` words
abbrev pub end_of : ℕ → ℕ → ℕ
end_of address count = address + 4 * count

-- Whether `count` words may stand at an address, after a segment that ends at start. There is at least one, at a multiple of 4 that
-- is not before start, and they lie wholly in the RAM of a machine with the most pages or wholly in ROM.
abbrev pub may_stand : ℕ → ℕ → ℕ → Bool
may_stand start address count =
    (address % 4 == 0) && nat_lt 0 count && nat_le start address
    && (nat_le (end_of address count) ram_end || (nat_le ROM_START address && nat_le (end_of address count) rom_end))

-- good segments: each may stand where it does, the first of them not before start
abbrev pub AreSegments : ℕ → List WordsAt → Type 0
AreSegments start [] = Unit {0}
AreSegments start (s ∷ ss) =
    IsTrue (may_stand start s.address (length s.words)) × All (λ w. w < 2 ^ 32) s.words × AreSegments (end_of s.address (length s.words)) ss

-- the words from an address on, each with its address
abbrev pub entries_from : ℕ → List ℕ → List (ℕ × ℕ)
entries_from address [] = []
entries_from address (w ∷ ws) = (address, w) ∷ entries_from (address + 4) ws

-- the words that segments set
abbrev pub set_words : List WordsAt → FinMap nat_cmp ℕ
set_words segments = from_entries (flat_map (λ s. entries_from s.address s.words) segments)

-- the image with these segments and constants
abbrev pub boot_of : List WordsAt → ℕ → ℕ → List ℕ → Boot
boot_of segments byte_time unit clock_start = record { words = set_words segments; byte_time = byte_time; unit = unit; clock_start = clock_start }

-- the image is made of these segments, which are good, as its constants are
pub record IsMadeOf (segments : List WordsAt) (boot : Boot) : Type 0 where
  pub stand : AreSegments 0 segments
  pub words : boot.words ≡ set_words segments
  pub byte_time : IsConstant boot.byte_time
  pub unit : IsConstant boot.unit
  pub clock_start : IsClockStart boot.clock_start

-- the last segment that begins at or below an address
abbrev pub last_at : ℕ → List WordsAt → Option WordsAt
last_at address [] = None
last_at address (s ∷ ss) = if nat_le s.address address then Some (unwrap_or (last_at address ss) s) else None
