-- A boot image (own): the words that it sets, by their physical addresses, and three constants. All other words are 0.
use Rattle.std.specs.Prelude.{◌≡◌, ℕ, ◌+◌, ◌*◌, ◌%◌, ◌^◌, ◌<◌, ◌≤◌, List, [], ◌∷◌, length, slice_index, All, IfSome, IsSome, IsTrue, None, refl}
use Rattle.std.specs.Ordering.{nat_cmp}
use Rattle.std.specs.FinMap as map
use Rattle.std.specs.Coded.{Coded, code_by, coded×, coded_ℕ, coded_list}
use Rattle.r3k_word.specs.declared.layout.TheConstants.{PAGE_WORDS, MAX_RAM_PAGES, ROM_START, ROM_BYTES}
use Rattle.r3k_word.specs.Layout.{place_of_word}

-- what a boot image is: set words, byte time of the serial part, unit of the clock, and registers 0 to 11 of the clock
pub record Boot : Type 0 where
  pub words : map.FinMap nat_cmp ℕ
  pub byte_time : ℕ
  pub unit : ℕ
  pub clock_start : List ℕ

-- how proofs distinguish two boot images: by all four parts
abbrev pub boot_code : Coded Boot
boot_code =
    code_by (map.FinMap nat_cmp ℕ × (ℕ × (ℕ × List ℕ))) (coded× (map.code coded_ℕ coded_ℕ) (coded× coded_ℕ (coded× coded_ℕ (coded_list coded_ℕ))))
    (λ b. (b.words, (b.byte_time, (b.unit, b.clock_start))))
    (λ p. record { words = p.0; byte_time = p.1.0; unit = p.1.1.0; clock_start = p.1.1.1 })
    (λ _. refl)

-- the address after the RAM of a machine with the most pages, and that after ROM (KN02)
abbrev pub ram_end : ℕ
ram_end = MAX_RAM_PAGES * (4 * PAGE_WORDS)

abbrev pub rom_end : ℕ
rom_end = ROM_START + ROM_BYTES

-- the values of byte time and unit: 1 to 65,535 (own)
abbrev pub IsConstant : ℕ → Type 0
IsConstant n = (1 ≤ n) × (n < 2 ^ 16)

-- what the first 12 registers of the clock may start with: bit 7 of register A, update in progress, and bit 0 of register
-- B, daylight saving, are 0 (MC146818 data sheet, registers A and B; that they are 0 at the start is own)
pub record IsClockStart (registers : List ℕ) : Type 0 where
  pub count : length registers ≡ 12
  pub bytes : All (λ b. b < 256) registers
  pub register_a : slice_index registers 10 < 128
  pub register_b : slice_index registers 11 % 2 ≡ 0

-- the byte time, 16, and the unit, 1, where nothing else is said (own)
abbrev pub plain_byte_time : ℕ
plain_byte_time = 16

abbrev pub plain_unit : ℕ
plain_unit = 1

-- what the clock starts with where nothing else is said (own): midnight of Sunday, the 1st of January, in binary and 24 hours
abbrev pub plain_clock_start : List ℕ
plain_clock_start = 0 ∷ 0 ∷ 0 ∷ 0 ∷ 0 ∷ 0 ∷ 1 ∷ 1 ∷ 1 ∷ 0 ∷ 32 ∷ 6 ∷ []

-- what every boot image keeps (own): each set word is a word of RAM or ROM, and the constants are in their ranges
pub record IsBoot (boot : Boot) : Type 0 where
  pub places : (address : ℕ) → IsTrue (map.contains_key boot.words address) → IsSome (place_of_word MAX_RAM_PAGES address)
  pub values : (address : ℕ) → IfSome (map.get boot.words address) (λ word. word < 2 ^ 32)
  pub byte_time : IsConstant boot.byte_time
  pub unit : IsConstant boot.unit
  pub clock_start : IsClockStart boot.clock_start

-- each set word of RAM lies in the first `pages` pages of RAM (own)
abbrev pub FitsRam : ℕ → Boot → Type 0
FitsRam pages boot = (address : ℕ) → IsTrue (map.contains_key boot.words address) → address < ram_end → address < pages * (4 * PAGE_WORDS)

-- no word is set from one address on, up to another one
abbrev pub IsBlank : (start end : ℕ) → Boot → Type 0
IsBlank start end boot = (address : ℕ) → start ≤ address → address < end → map.get boot.words address ≡ None
