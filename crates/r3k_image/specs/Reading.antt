-- Reading an image from left to right (own), with the first fault that is met.
use Rattle.std.specs.Prelude.{◌≡◌, ℕ, zero, suc, ◌+◌, ◌*◌, ◌/◌, ◌%◌, ◌^◌, List, [], ◌∷◌, ◌++◌, length, drop, replicate, slice_index, Bool, Result, Ok, Err, IsOk, nat_lt, nat_le, ◌==◌, ◌&&◌, if◌then◌else◌}
use Rattle.std.specs.Str.{bytes_eq}
use Rattle.r3k_word.specs.Word.{word_of}
use Rattle.r3k_word.specs.Reading.{◌>>=◌, bytes_at, number_at}
use Rattle.r3k_word.specs.declared.layout.TheConstants.{ROM_START, ROM_BYTES}
use Rattle.r3k_image.specs.declared.fault.ImageKind.{ImageKind}
use Rattle.r3k_image.specs.declared.fault.ImageKind.TheVariants as kinds
use Rattle.r3k_image.specs.declared.fault.ImageFault.{ImageFault}
use Rattle.r3k_image.specs.declared.fault.ImageFault.TheVariants.{Memory, Bad}
use Rattle.r3k_image.specs.declared.header.TheConstants.{MAGIC}
use Rattle.r3k_image.specs.declared.header.Header.{Header}
use Rattle.r3k_image.specs.Boot.{Boot, plain_byte_time, plain_clock_start, plain_unit}
use Rattle.r3k_image.specs.Segments.{WordsAt, end_of, may_stand, boot_of}

-- what a function that may run out of memory returned, seen by view, is what reading gives
abbrev pub FailsOrLacks : {Y : Type 0} → ImageFault → Result Y ImageKind → Type 0
FailsOrLacks Memory read = Unit {0}
FailsOrLacks (Bad kind) read = read ≡ Err kind

abbrev pub ReadsOrLacks : {X Y : Type 0} → (X → Y) → Result X ImageFault → Result Y ImageKind → Type 0
ReadsOrLacks view (Ok x) read = read ≡ Ok (view x)
ReadsOrLacks view (Err fault) read = FailsOrLacks fault read

-- a number from 1 to 65,535, or else this fault
unfoldable pub constant_at : ImageKind → List ℕ → Result (ℕ × List ℕ) ImageKind
constant_at fault bytes = do
  n ← number_at kinds.Short bytes
  if nat_le 1 n.0 && nat_lt n.0 (2 ^ 16) then Ok n else Err fault

-- whether bit 7 of register A and bit 0 of register B are 0
abbrev pub is_clock_start : List ℕ → Bool
is_clock_start registers = nat_lt (slice_index registers 10) 128 && (slice_index registers 11 % 2 == 0)

-- what stands before the segments
unfoldable pub header_at : List ℕ → Result (Header × List ℕ) ImageKind
header_at bytes = do
  magic ← bytes_at kinds.Short 8 bytes
  time ← if bytes_eq magic.0 MAGIC then constant_at kinds.ByteTime magic.1 else Err kinds.Magic
  second ← constant_at kinds.Unit time.1
  clock ← bytes_at kinds.Short 12 second.1
  count ← if is_clock_start clock.0 then number_at kinds.Short clock.1 else Err kinds.ClockStart
  Ok (record { byte_time = time.0; unit = second.0; clock_start = clock.0; segment_count = count.0 }, count.1)

-- n words, one after the other
abbrev pub words_of : ℕ → List ℕ → List ℕ
words_of zero bytes = []
words_of (suc n) bytes = word_of bytes ∷ words_of n (drop 4 bytes)

-- a segment after one that ends at start: address and number of words are both read before they are judged, and they are
-- judged before the words are read
unfoldable pub segment_at : ℕ → List ℕ → Result (WordsAt × List ℕ) ImageKind
segment_at start bytes = do
  address ← number_at kinds.Short bytes
  count ← number_at kinds.Short address.1
  words ← if may_stand start address.0 count.0 then bytes_at kinds.Short (4 * count.0) count.1 else Err kinds.Segment
  Ok (record { address = address.0; words = words_of count.0 words.0 }, words.1)

-- n segments, after one that ends at start
unfoldable pub segments_at : ℕ → ℕ → List ℕ → Result (List WordsAt × List ℕ) ImageKind
segments_at zero start bytes = Ok ([], bytes)
segments_at (suc n) start bytes = do
  first ← segment_at start bytes
  others ← segments_at n (end_of first.0.address (length first.0.words)) first.1
  Ok (first.0 ∷ others.0, others.1)

-- the image that all of the bytes are
unfoldable pub image_at : List ℕ → Result Boot ImageKind
image_at bytes = do
  header ← header_at bytes
  segments ← segments_at header.0.segment_count 0 header.1
  if length segments.1 == 0 then Ok (boot_of segments.0 header.0.byte_time header.0.unit header.0.clock_start) else Err kinds.Extra

-- The bytes begin with a header and, as it says, a segment. Only then is memory asked for, for its words and what follows.
abbrev pub HasSegment : List ℕ → Type 0
HasSegment bytes = IsOk (header_at bytes >>= λ header. if nat_lt 0 header.0.segment_count then segment_at 0 header.1 else Err kinds.Extra)

-- the words of a raw ROM: its bytes four by four, the last part filled with zero bytes
abbrev pub rom_words : List ℕ → List ℕ
rom_words bytes = words_of ((length bytes + 3) / 4) (bytes ++ replicate 3 0)

-- the image of a raw ROM, if it is no longer than ROM: the ROM words that its bytes reach, and the plain constants
unfoldable pub raw_rom_at : List ℕ → Result Boot ImageKind
raw_rom_at bytes =
    if nat_lt ROM_BYTES (length bytes) then Err kinds.RawSize
    else Ok (boot_of (record { address = ROM_START; words = rom_words bytes } ∷ []) plain_byte_time plain_unit plain_clock_start)
