-- In which virtual pages a run has its PC (own). A virtual page has a number: that of an address in it, divided by 4096.
use Rattle.std.specs.Prelude.{◌≡◌, ◌⊎◌, ◌↔◌, ℕ, ◌/◌, ◌^◌, ◌<◌, ◌≤◌, Bool, false, IsTrue, List, All, length, nat_eq, slice_index_or}
use Rattle.std.specs.List.{IsDistinct}
use Rattle.input_log.specs.Event.{LogEvent}
use Rattle.r3k_word.specs.declared.layout.TheConstants.{PAGE_BYTES}
use Rattle.r3k_machine.specs.State.{State}
use Rattle.r3k_machine.specs.Run.{run}
use Rattle.r3k_pages.specs.Pages.{holds}

-- the PC is in a page at the start of a run, or after one of its n steps
abbrev pub RunsIn : (pages : ℕ) → List LogEvent → (time : ℕ) → State → (n page : ℕ) → Type 0
RunsIn pages log time s n page = (k : ℕ) × (k ≤ n) × ((run pages log time s k).core.pc / PAGE_BYTES ≡ page)

-- a set of pages is another one with those in which the run has its PC
abbrev pub AddsCodePages : (pages : ℕ) → List LogEvent → (time : ℕ) → State → (n : ℕ) → (before after : List ℕ) → Type 0
AddsCodePages pages log time s n before after = (page : ℕ) → IsTrue (holds after page) ↔ (IsTrue (holds before page) ⊎ RunsIn pages log time s n page)

-- each step from one number of steps on, and before another one, begins in a page
abbrev pub BeginsIn : (pages : ℕ) → List LogEvent → (time : ℕ) → State → (page from to : ℕ) → Type 0
BeginsIn pages log time s page from to = (k : ℕ) → from ≤ k → k < to → (run pages log time s k).core.pc / PAGE_BYTES ≡ page

-- How a set of virtual pages is kept: a mark for each page, and the list of the pages that have one, with room for all.
pub record AreNoted (room : ℕ) (marks : List Bool) (set : List ℕ) : Type 0 where
  pub long : length marks ≡ 2 ^ 20
  pub fits : 2 ^ 20 ≤ room
  pub within : All (λ page. page < 2 ^ 20) set
  pub once : IsDistinct nat_eq set
  pub marked : (page : ℕ) → slice_index_or marks page false ≡ holds set page
