-- What a step reports lies within the machine (own): of use to whoever keeps pages and words by what steps report.
use Rattle.std.specs.Prelude.{◌≡◌, ℕ, ◌+◌, ◌*◌, ◌/◌, ◌%◌, ◌<◌, List, All, IfSome, Option, Some, None, slice_set}
use Rattle.r3k_word.specs.declared.layout.TheConstants.{PAGE_BYTES, ROM_PAGES}
use Rattle.r3k_machine.specs.declared.step.Done.{Done}

-- a page of RAM or ROM
abbrev pub IsPage : ℕ → ℕ → Type 0
IsPage pages page = page < pages + ROM_PAGES

-- the address of a word of RAM
abbrev pub IsRamWord : ℕ → ℕ → Type 0
IsRamWord pages address = (address % 4 ≡ 0) × (address < pages * PAGE_BYTES)

-- the words differ at most at the one that was stored into
abbrev pub DifferAt : Option ℕ → (old new : List ℕ) → Type 0
DifferAt None old new = new ≡ old
DifferAt (Some address) old new = (value : ℕ) × (new ≡ slice_set old (address / 4) value)

-- what is reported of a step between these words
pub record IsReport (pages : ℕ) (old new : List ℕ) (done : Done) : Type 0 where
  pub stored : IfSome done.stored (IsRamWord pages)
  pub words : DifferAt done.stored old new
  pub touched : All (λ page. IfSome page (IsPage pages)) done.touched
