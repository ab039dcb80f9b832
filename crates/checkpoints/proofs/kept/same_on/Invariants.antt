use Rattle.std.proofs.Common.{◌<◌, ℕ, slice_index}
use Rattle.r3k_pages.specs.Pages.{SamePage}
use Rattle.checkpoints.proofs.kept.same_on.Given as goal

-- the pages so far are the same
abbrev pub invariant-loop-page : goal.invariant-loop-page
invariant-loop-page g l = (k : ℕ) → k < l.page-index → SamePage (slice_index l.set k) l.a l.b
