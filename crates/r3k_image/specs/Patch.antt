-- A patch (own): the image sets one word, also where its value stays the same.
use Rattle.std.specs.Prelude.{ℕ, ◌%◌, ◌==◌, Option, Some, None, Result, Ok, Err, if◌then◌else◌}
use Rattle.std.specs.FinMap as map
use Rattle.r3k_image.specs.Boot.{Boot}
use Rattle.r3k_word.specs.Layout.{place_of_word}
use Rattle.refusal.specs.declared.fault.Fault.{Fault}
use Rattle.refusal.specs.declared.fault.Fault.TheVariants.{Unaligned, NotMemory}

-- an image that sets a word, also where its value stays the same
abbrev pub patched : (address word : ℕ) → Boot → Boot
patched address word boot = record {
  words = map.insert boot.words address word;
  byte_time = boot.byte_time;
  unit = boot.unit;
  clock_start = boot.clock_start;
}

-- it does so where the word has a place in memory
abbrev pub patched_at : Option ℕ → Boot → Result Boot Fault
patched_at (Some place) boot = Ok boot
patched_at None boot = Err NotMemory

-- a word is patched, unless a machine with `pages` RAM pages has no word at the address: `Unaligned` comes before
-- `NotMemory`
abbrev pub patching : (pages address word : ℕ) → Boot → Result Boot Fault
patching pages address word boot =
    if address % 4 == 0 then patched_at (place_of_word pages address) (patched address word boot) else Err Unaligned
