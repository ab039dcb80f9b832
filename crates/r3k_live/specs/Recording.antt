-- How a recorder keeps what steps reported (own).
use Rattle.std.specs.Prelude.{◌≡◌, ℕ, ◌+◌, ◌*◌, ◌/◌, ◌<◌, ◌≤◌, List, [], ◌∷◌, ◌++◌, IfSome, IsTrue, length, Option, Some, None, slice_index, slice_index_or, slice_set}
use Rattle.r3k_word.specs.declared.layout.TheConstants.{MAX_RAM_PAGES, PAGE_BYTES, PAGE_WORDS}
use Rattle.r3k_machine.specs.declared.step.Done.{Done}
use Rattle.r3k_machine.specs.declared.target.Target.TheVariants.{Memory}
use Rattle.r3k_machine.specs.Run.{last_writer}
use Rattle.r3k_machine.specs.Quiet.{IsFetchedOverBus}
use Rattle.r3k_machine.specs.Reports.{IsPage, IsRamWord}
use Rattle.r3k_pages.specs.Pages.{holds}
use Rattle.r3k_machine.specs.Locality.{is_touched}
use Rattle.r3k_live.specs.Kept.{kept_step}
use Rattle.r3k_live.specs.Record.{AreDestinations, is_dirty, sent_from}
use Rattle.r3k_live.specs.declared.recorder.SentAt.{SentAt}

pub record Recording : Type 0 where
  pub steps : ℕ
  pub last : List ℕ
  pub dirty : List ℕ
  pub destinations : List ℕ
  pub touched : List ℕ
  pub sent : List SentAt
  pub code_pages : List ℕ

-- these steps after one more, which stored into a word or did not
abbrev pub with_writer : List ℕ → (step : ℕ) → Option ℕ → List ℕ
with_writer last step None = last
with_writer last step (Some address) = slice_set last (address / 4) (step + 1)

-- the page of the word that a step stored into
abbrev pub page_of_store : Option ℕ → Option ℕ
page_of_store None = None
page_of_store (Some address) = Some (address / PAGE_BYTES)

-- the page of the word that a step stored into, if it did, is the second one that it touched
abbrev pub TouchesStored : Done → Type 0
TouchesStored done = IfSome done.stored (λ address. slice_index_or done.touched 1 None ≡ Some (address / PAGE_BYTES))

-- Quick steps may go on at once in a page of memory when they come to a virtual page: it is touched, and the PC was there. Wherever kseg0
-- and kseg1 go over the bus, the words of the one are fetched from the other.
pub record IsReady (pages number page : ℕ) (r : Recording) : Type 0 where
  pub within : IsPage pages page
  pub fetched : IsFetchedOverBus pages number page
  pub touched : IsTrue (holds r.touched page)
  pub stood : IsTrue (holds r.code_pages number)

-- A recorder has room for all that `span` steps can report, and each page that was stored into was touched. What it has of pages that are
-- ready holds.
pub record IsRecording (pages span sent_room : ℕ) (ready_pages : List ℕ) (r : Recording) : Type 0 where
  pub few : pages ≤ MAX_RAM_PAGES
  pub steps : r.steps ≤ span
  pub last : length r.last ≡ pages * PAGE_WORDS
  pub sent : length r.sent ≤ r.steps
  pub sent_fits : span ≤ sent_room
  pub stored_touched : (page : ℕ) → IsTrue (holds r.dirty page) → IsTrue (holds r.touched page)
  pub ready : (number page : ℕ) → slice_index ready_pages number ≡ page + 1 → IsReady pages number page r

-- a recorder holds what these steps reported
pub record Records (pages : ℕ) (steps : List Done) (r : Recording) : Type 0 where
  pub count : r.steps ≡ length steps
  pub last : (place : ℕ) → place < pages * PAGE_WORDS → slice_index r.last place ≡ kept_step (last_writer (Memory (4 * place)) steps)
  pub ram : (address : ℕ) → ¬ IsRamWord pages address → last_writer (Memory address) steps ≡ None
  pub dirty : (page : ℕ) → holds r.dirty page ≡ is_dirty steps page
  pub destinations : AreDestinations steps r.destinations
  pub touched : (page : ℕ) → holds r.touched page ≡ is_touched steps page
  pub sent : r.sent ≡ sent_from 0 steps

-- A recorder holds what it held, and what one more step reported. The page of that step was touched before.
pub record IsNoted (pages : ℕ) (done : Done) (r later : Recording) : Type 0 where
  pub steps : later.steps ≡ r.steps + 1
  pub records : (steps : List Done) → Records pages steps r → Records pages (steps ++ done ∷ []) later
  pub touched : (page : ℕ) → IsTrue (holds r.touched page) → IsTrue (holds later.touched page)
  pub code_pages : later.code_pages ≡ r.code_pages
