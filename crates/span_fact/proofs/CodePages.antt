-- In which pages the PC was, as it is kept.
use Rattle.std.proofs.Common.{◌≡◌, ◌↔◌, ℕ, List, [], IsTrue, inl, inr}
use Rattle.std.proofs.lemmas.Bool.{false≢true}
use Rattle.input_log.specs.Event.{LogEvent}
use Rattle.r3k_machine.specs.State.{State}
use Rattle.r3k_pages.specs.Pages.{holds}
use Rattle.r3k_live.specs.CodePages.{AddsCodePages, RunsIn}

-- a set that was empty before a run has the pages in which the run has its PC
pub from_none : (pages : ℕ) (log : List LogEvent) (time : ℕ) (s start : State) (n : ℕ) (before after kept : List ℕ)
    → AddsCodePages pages log time s n before after → before ≡ [] → kept ≡ after → s ≡ start
    → (page : ℕ) → IsTrue (holds kept page) ↔ RunsIn pages log time start n page
from_none pages log time s start n before after kept code_pages none same here page =
    let adds = rw none at code_pages page in
    rw (← here, same) (
      λ held. elim (adds.0 held) [ inl empty ↦ absurd (false≢true empty) | inr stands ↦ stands ],
      λ stands. adds.1 (inr stands),
    )
