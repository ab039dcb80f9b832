-- What the steps of a run reported, taken together (own): the bytes that they sent, the pages that they stored into, and those that
-- they touched. The last step that wrote a word or a register is given by the last writer.
use Rattle.std.specs.Prelude.{◌≡◌, ℕ, suc, ◌*◌, ◌/◌, ◌<◌, ◌≤◌, ◌==◌, Bool, false, List, [], ◌∷◌, Option, Some, None, All, Contains, IsSome, map, nat_eq, slice_index}
use Rattle.std.specs.List.{list_any}
use Rattle.std.specs.List.Sorted.{IsStrictlyIncreasing}
use Rattle.r3k_word.specs.declared.layout.TheConstants.{PAGE_BYTES, PAGE_WORDS}
use Rattle.dz_serial.specs.declared.write.Sent.{Sent}
use Rattle.r3k_machine.specs.declared.step.Done.{Done}
use Rattle.r3k_machine.specs.declared.target.Target.TheVariants.{Memory}
use Rattle.r3k_machine.specs.Run.{last_where, last_writer}
use Rattle.r3k_machine.specs.Reports.{IsRamWord}
use Rattle.r3k_machine.specs.Locality.{is_touched}
use Rattle.r3k_pages.specs.Pages.{pages_where}
use Rattle.r3k_live.specs.declared.recorder.SentAt.{SentAt}
use Rattle.r3k_live.specs.declared.recorder.Written.{Written}
use Rattle.r3k_live.specs.Kept.{kept_step}

-- a byte that a step sent, if it did, in front of later ones
abbrev pub with_sent : (step : ℕ) → Option Sent → List SentAt → List SentAt
with_sent step None later = later
with_sent step (Some sent) later = record { line = sent.line; byte = sent.byte; step = step } ∷ later

-- the bytes that steps sent, where the first step has this number
abbrev pub sent_from : (first : ℕ) → List Done → List SentAt
sent_from first [] = []
sent_from first (done ∷ steps) = with_sent first done.sent (sent_from (suc first) steps)

-- whether a step stored into a word of a page
abbrev pub stores_in : ℕ → Option ℕ → Bool
stores_in page None = false
stores_in page (Some address) = nat_eq (address / PAGE_BYTES) page

-- whether steps stored into a page
abbrev pub is_dirty : List Done → ℕ → Bool
is_dirty steps page = list_any (λ done. stores_in page done.stored) steps

-- whether a step stored into the word at a place, and whether steps did
abbrev pub stores_at : ℕ → Option ℕ → Bool
stores_at place None = false
stores_at place (Some address) = nat_eq (address / 4) place

abbrev pub is_stored_at : List Done → ℕ → Bool
is_stored_at steps place = list_any (λ done. stores_at place done.stored) steps

-- the pages that steps stored into, and those that they touched
abbrev pub dirty_pages : ℕ → List Done → List ℕ
dirty_pages pages steps = pages_where pages (is_dirty steps)

abbrev pub touched_pages : ℕ → List Done → List ℕ
touched_pages pages steps = pages_where pages (is_touched steps)

-- the words of RAM that steps stored into, by their places in ascending order, each once and with its last step
pub record AreWriters (pages : ℕ) (steps : List Done) (writers : List Written) : Type 0 where
  pub each : All (λ writer. last_writer (Memory (4 * writer.place)) steps ≡ Some writer.step) writers
  pub all : (place : ℕ) → place < pages * PAGE_WORDS → IsSome (last_writer (Memory (4 * place)) steps) → Contains (map (λ writer. writer.place) writers) place
  pub ram : (address : ℕ) → ¬ IsRamWord pages address → last_writer (Memory address) steps ≡ None
  pub ascending : IsStrictlyIncreasing (map (λ writer. writer.place) writers)

-- for each destination of steps one more than the last of them that had it, or 0
abbrev pub AreDestinations : List Done → (last : List ℕ) → Type 0
AreDestinations steps last = (number : ℕ) → number ≤ 34 → slice_index last number ≡ kept_step (last_where (λ done. done.wrote == number) steps)
