use Rattle.std.proofs.Common.{◌<◌, ℕ}
use Rattle.r3k_pages.specs.Pages.{SamePage}
use Rattle.r3k_pages.proofs.snapshot.Snapshot.equals.Given as goal

-- the pages so far are the same
abbrev pub invariant-loop-page : goal.invariant-loop-page
invariant-loop-page g l = (page : ℕ) → page < l.page → SamePage page l.self l.other
