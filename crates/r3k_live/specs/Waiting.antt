-- Steps that come again (own). A loop that waits comes back to the very state from which it began. So what it reports comes again too,
-- and the last step of each thing that it wrote comes later by as many steps as have passed.
use Rattle.std.specs.Prelude.{◌≡◌, ℕ, ◌+◌, ◌*◌, ◌<◌, ◌≤◌, Bool, ◌&&◌, List, length, nat_eq, nat_le, nat_lt, slice_index, if◌then◌else◌}
use Rattle.std.specs.List.{list_any}
use Rattle.r3k_word.specs.declared.layout.TheConstants.{PAGE_WORDS}
use Rattle.r3k_live.specs.Recording.{Recording}
use Rattle.r3k_live.specs.declared.stores.Held.{Held}

-- whether a word is among those that are held
abbrev pub is_among : List Held → (place : ℕ) → Bool
is_among held place = list_any (λ word. nat_eq word.place place) held

-- a kept step of a word that is, or is not, among those that come later
abbrev pub come_later : Bool → (steps passed kept : ℕ) → ℕ
come_later among steps passed kept = if among && nat_le kept steps then kept + passed else kept

-- a word whose last step comes to stand after all steps
pub record IsPassedBy (steps passed : ℕ) (last : List ℕ) (held : Held) : Type 0 where
  pub within : held.place < length last
  pub some : 0 < slice_index last held.place
  pub after : steps < slice_index last held.place + passed

-- a kept step, where those after a number of steps came again
abbrev pub passed_by : (since passed kept : ℕ) → ℕ
passed_by since passed kept = if nat_lt since kept then kept + passed else kept

-- a recorder after `passed` more steps, in which all after a number of steps came again
pub record HasPassed (pages since passed : ℕ) (r later : Recording) : Type 0 where
  pub steps : later.steps ≡ r.steps + passed
  pub last : (place : ℕ) → place < pages * PAGE_WORDS → slice_index r.last place ≤ r.steps
      → slice_index later.last place ≡ passed_by since passed (slice_index r.last place)
  pub destinations : (number : ℕ) → number ≤ 34 → slice_index r.destinations number ≤ r.steps
      → slice_index later.destinations number ≡ passed_by since passed (slice_index r.destinations number)
  pub dirty : later.dirty ≡ r.dirty
  pub touched : later.touched ≡ r.touched
  pub sent : later.sent ≡ r.sent
  pub code_pages : later.code_pages ≡ r.code_pages

-- a word with a later step than a number of steps, by its place, with what it holds
pub record IsHeld (since : ℕ) (last words : List ℕ) (held : Held) : Type 0 where
  pub within : held.place < length last
  pub later : since < slice_index last held.place
  pub word : held.word ≡ slice_index words held.place

-- the word at a place, as it is held
abbrev pub held_at : (words : List ℕ) → (place : ℕ) → Held
held_at words place = record { place = place; word = slice_index words place }
