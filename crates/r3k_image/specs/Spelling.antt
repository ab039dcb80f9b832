-- How an image is spelled (own): eight bytes of magic, the byte time, the unit, 12 clock registers, the number of segments,
-- and then each segment: its address, the number of its words, and its words. All numbers are words, little-endian.
use Rattle.std.specs.Prelude.{◌≡◌, List, ◌++◌, length, flat_map, ℕ}
use Rattle.r3k_word.specs.Word.{bytes_of}
use Rattle.r3k_image.specs.declared.header.TheConstants.{MAGIC}
use Rattle.r3k_image.specs.Boot.{Boot}
use Rattle.r3k_image.specs.Segments.{WordsAt, IsMadeOf}

-- the bytes of a segment: its address, the number of its words, and its words
abbrev pub segment : WordsAt → List ℕ
segment s = bytes_of s.address ++ bytes_of (length s.words) ++ flat_map bytes_of s.words

-- the bytes of an image with these constants and segments
abbrev pub spelling : Boot → List WordsAt → List ℕ
spelling boot segments =
    MAGIC ++ bytes_of boot.byte_time ++ bytes_of boot.unit ++ boot.clock_start ++ bytes_of (length segments) ++ flat_map segment segments

-- the bytes spell the image: its constants and good segments, which set exactly its words
pub record Spells (bytes : List ℕ) (boot : Boot) : Type 0 where
  pub segments : List WordsAt
  pub made : IsMadeOf segments boot
  pub spelled : bytes ≡ spelling boot segments
