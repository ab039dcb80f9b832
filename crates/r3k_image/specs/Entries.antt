-- Words by their addresses (own): words of RAM and ROM in ascending order.
use Rattle.std.specs.Prelude.{◌≡◌, ℕ, ◌+◌, ◌%◌, ◌^◌, ◌<◌, ◌≤◌, ◌⊎◌, List, [], ◌∷◌}
use Rattle.r3k_word.specs.declared.layout.TheConstants.{ROM_START}
use Rattle.r3k_image.specs.Boot.{ram_end, rom_end}

-- a word in its place, which is not before start
pub record IsPlaced (start address word : ℕ) : Type 0 where
  pub aligned : address % 4 ≡ 0
  pub after : start ≤ address
  pub inside : (address < ram_end) ⊎ ((ROM_START ≤ address) × (address < rom_end))
  pub fits : word < 2 ^ 32

-- words with their addresses, in ascending order, each in its place, and the first not before start
abbrev pub AreEntries : ℕ → List (ℕ × ℕ) → Type 0
AreEntries start [] = Unit {0}
AreEntries start (e ∷ es) = IsPlaced start e.0 e.1 × AreEntries (e.0 + 4) es
