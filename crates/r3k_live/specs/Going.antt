-- How far a run has gone (own).
use Rattle.std.specs.Prelude.{◌≡◌, ℕ, zero, suc, ◌+◌, ◌-◌, ◌*◌, ◌/◌, ◌^◌, ◌<◌, ◌≤◌, ◌||◌, nat_eq, List, [], ◌∷◌, ◌++◌, IsFalse, IsTrue, None, slice_index}
use Rattle.input_log.specs.Event.{LogEvent}
use Rattle.r3k_word.specs.declared.layout.TheConstants.{PAGE_BYTES, PAGE_WORDS}
use Rattle.r3k_machine.specs.declared.quick.CodePage.{CodePage}
use Rattle.r3k_machine.specs.declared.step.Done.{Done}
use Rattle.r3k_machine.specs.declared.target.Target.TheVariants.{Memory}
use Rattle.r3k_machine.specs.Core.{Core}
use Rattle.r3k_machine.specs.Reports.{IsReport}
use Rattle.r3k_machine.specs.Quiet.{IsCodePage, IsIndexIn, IsQuick, IsQuietFor, state_elapsed}
use Rattle.r3k_machine.specs.Run.{arriving, last_writer, run, trace}
use Rattle.r3k_machine.specs.State.{State}
use Rattle.r3k_machine.specs.Step.{outcome_of_instruction}
use Rattle.r3k_pages.specs.Pages.{holds}
use Rattle.r3k_live.specs.Record.{is_stored_at}
use Rattle.r3k_live.specs.Recording.{IsNoted, Recording, Records}
use Rattle.r3k_live.specs.CodePages.{BeginsIn, AddsCodePages}

-- `made` steps of the run from a state are made and recorded, and words that they did not store into stayed
pub record HasGone (pages : ℕ) (log : List LogEvent) (from : ℕ) (start : State) (made : ℕ) (s : State) (r : Recording) : Type 0 where
  pub state : s ≡ run pages log from start made
  pub recorded : Records pages (trace pages log from start made) r
  pub stayed : (place : ℕ) → IsFalse (is_stored_at (trace pages log from start made) place)
      → slice_index start.words place ≡ slice_index s.words place

-- none after one number of steps and before another one holds an address in PC
abbrev pub PassesBy : (pages : ℕ) → List LogEvent → (from : ℕ) → State → (address above below : ℕ) → Type 0
PassesBy pages log from start address above below = (k : ℕ) → above < k → k < below → ¬ ((run pages log from start k).core.pc ≡ address)

-- the steps of a run that follow `made` of them: n are made and recorded, none but the last comes to an address, if it is one, and the
-- pages in which the PC stands are noted
pub record HasGoneFor (pages : ℕ) (log : List LogEvent) (from : ℕ) (start : State) (address made n : ℕ) (r : Recording) (t : State) (later : Recording) : Type 0 where
  pub gone : HasGone pages log from start (made + n) t later
  pub passed : address < 2 ^ 32 → PassesBy pages log from start address made (made + n)
  pub code_pages : (before : List ℕ) → AddsCodePages pages log from start made before r.code_pages → AddsCodePages pages log from start (made + n) before later.code_pages

-- the events that are left have all of a log from a time on
abbrev pub AreLeft : (time : ℕ) → (left log : List LogEvent) → Type 0
AreLeft time left log = (later : ℕ) → time ≤ later → arriving left later ≡ arriving log later

-- n times from one on have no event
abbrev pub IsFreeFor : ℕ → List LogEvent → ℕ → Type 0
IsFreeFor n log time = (k : ℕ) → k < n → arriving log (time + k) ≡ []

-- the state after n instructions with no tick between them, and what these report
unfoldable pub quick_run : (pages : ℕ) → State → (n : ℕ) → State
quick_run pages s zero = s
quick_run pages s (suc n) = (outcome_of_instruction pages (quick_run pages s n)).state

unfoldable pub quick_trace : (pages : ℕ) → State → (n : ℕ) → List Done
quick_trace pages s zero = []
quick_trace pages s (suc n) = quick_trace pages s n ++ (outcome_of_instruction pages (quick_run pages s n)).done ∷ []

-- n instructions, each of them quick, lead from a state to another one, and are recorded
pub record LeadsTo (pages n : ℕ) (s t : State) (r later : Recording) : Type 0 where
  pub quick : (k : ℕ) → k < n → IsQuick pages (quick_run pages s k)
  pub end : t ≡ quick_run pages s n
  pub records : (steps : List Done) → Records pages steps r → Records pages (steps ++ quick_trace pages s n) later
  pub stayed : (place : ℕ) → last_writer (Memory (4 * place)) (quick_trace pages s n) ≡ None → slice_index s.words place ≡ slice_index t.words place

-- Quick steps of a page may go on, as long as they are fewer than `most`: the times are quiet, and the page was touched before.
pub record MayGoOn (pages most : ℕ) (page : CodePage) (core : Core) (r : Recording) : Type 0 where
  pub quiet : IsQuietFor most core
  pub code : IsCodePage pages core page
  pub again : IsTrue (holds r.touched page.page)

-- A run has gone from one number of steps on to another one: all of these steps began in a page, and none at an address.
pub record HasGoneOn (pages : ℕ) (log : List LogEvent) (from : ℕ) (start : State) (address number low high : ℕ) (s : State) (r : Recording) : Type 0 where
  pub gone : HasGone pages log from start high s r
  pub passed : (k : ℕ) → low ≤ k → k < high → ¬ ((run pages log from start k).core.pc ≡ address)
  pub begins : BeginsIn pages log from start number low high

-- Quick steps of a page go on from `made` of them to n. Their ticks and falls of Random are still to come. So goes any run that no event
-- reaches in these times.
pub record GoesOn (pages most address : ℕ) (page : CodePage) (made n : ℕ) (s t : State) (r later : Recording) : Type 0 where
  pub least : made ≤ n
  pub bound : n ≤ most
  pub count : later.steps + made ≡ r.steps + n
  pub code_pages : later.code_pages ≡ r.code_pages
  pub leads : LeadsTo pages (n - made) s t r later
  pub may : MayGoOn pages most page t.core later
  pub runs : (log : List LogEvent) (from : ℕ) (start : State) (before : ℕ) → IsFreeFor most log (from + before)
      → HasGone pages log from start (before + made) (state_elapsed made s) r
      → HasGoneOn pages log from start address page.number (before + made) (before + n) (state_elapsed n t) later

-- A step of a page leads from a state to another one, so that quick steps go on by it once it is recorded.
abbrev pub GoesOnBy : (pages : ℕ) (page : CodePage) (done : Done) (s t : State) → Type 0
GoesOnBy pages page done s t = (most address made : ℕ) (r later : Recording) → made < most → ¬ (s.core.pc ≡ address) → MayGoOn pages most page s.core r
    → IsNoted pages done r later → GoesOn pages most address page made (made + 1) s t r later

-- One quick step leads from a state to another one, and is recorded with the page in which the PC then stands.
pub record GoesOnce (pages : ℕ) (s t : State) (r later : Recording) : Type 0 where
  pub done : Done
  pub quick : IsQuick pages s
  pub ran : outcome_of_instruction pages s ≡ record { state = t; done = done }
  pub reports : IsReport pages s.words t.words done
  pub steps : later.steps ≡ r.steps + 1
  pub records : (steps : List Done) → Records pages steps r → Records pages (steps ++ done ∷ []) later
  pub code_pages : (other : ℕ) → holds later.code_pages other ≡ (holds r.code_pages other || nat_eq (t.core.pc / PAGE_BYTES) other)

-- Quick steps go on from page to page, n of them. Their ticks and falls of Random are still to come. So goes any run that no event reaches
-- in these times.
pub record GoesOver (pages most address n : ℕ) (s t : State) (r later : Recording) : Type 0 where
  pub bound : n ≤ most
  pub count : later.steps ≡ r.steps + n
  pub quiet : IsQuietFor most t.core
  pub leads : LeadsTo pages n s t r later
  pub runs : (log : List LogEvent) (from : ℕ) (start : State) (before : ℕ) → IsFreeFor most log (from + before)
      → HasGone pages log from start before s r
      → HasGoneFor pages log from start address before n r (state_elapsed n t) later

-- the number of the word of a page at an address, if that lies in the page
abbrev pub IsWordAt : (page : CodePage) → (address index : ℕ) → Type 0
IsWordAt page address index = (other : ℕ) → IsIndexIn page address other → other ≡ index

-- steps from word to word may be made before this one: not past the address at which all end, and fewer than `most` after `begun`
pub record Ends (most begun first halt end steps : ℕ) : Type 0 where
  pub since : begun ≤ steps
  pub made : steps ≤ begun + most
  pub bound : end ≤ first + (begun + most - steps)
  pub stops : (index : ℕ) → first ≤ index → index < end → index < PAGE_WORDS → ¬ (index ≡ halt)
