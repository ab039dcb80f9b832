-- Reset (own): PC and next PC stand at the start of ROM in kseg1, and the control registers and devices are those at reset, with
-- the image's byte time, unit and clock registers. RAM and ROM hold the words that the image sets. All else, the translation
-- entries and the slots of the isolated cache too, is 0 or empty.
use Rattle.std.specs.Prelude.{ℕ, ◌+◌, List, replicate, false, None, map, unwrap_or}
use Rattle.std.specs.List.{range_with_len}
use Rattle.std.specs.FinMap.{get}
use Rattle.r3k_word.specs.Layout.{word_count_of, address_of_place}
use Rattle.r3k_image.specs.Boot.{Boot}
use Rattle.cop0.specs.Registers.{reset_registers}
use Rattle.tlb64.specs.Entries.{reset_entries}
use Rattle.dcache.specs.Arrays.{reset_arrays}
use Rattle.kn02_bus.specs.State.{reset_bus}
use Rattle.r3k_machine.specs.Core.{Core}
use Rattle.r3k_machine.specs.declared.state.TheConstants.{RESET_PC}
use Rattle.r3k_machine.specs.State.{State}

abbrev pub reset_core : Boot → Core
reset_core image = record {
  registers = replicate 32 0;
  hi = 0;
  lo = 0;
  pc = RESET_PC;
  next_pc = RESET_PC + 4;
  delay = false;
  load = None;
  cop0 = reset_registers;
  entries = reset_entries;
  caches = reset_arrays;
  bus = reset_bus image.byte_time image.clock_start image.unit;
}

-- the word at a place at reset
abbrev pub reset_word : ℕ → Boot → ℕ → ℕ
reset_word pages image place = unwrap_or (get image.words (address_of_place pages place)) 0

-- all words of RAM and ROM at reset
abbrev pub reset_words : ℕ → Boot → List ℕ
reset_words pages image = map (reset_word pages image) (range_with_len 0 (word_count_of pages))

abbrev pub reset : ℕ → Boot → State
reset pages image = record { core = reset_core image; words = reset_words pages image }
