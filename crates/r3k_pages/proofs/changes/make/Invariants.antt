use Rattle.std.proofs.Common.{◌≡◌, take}
use Rattle.r3k_pages.specs.Changes.{with_changes}
use Rattle.r3k_pages.proofs.changes.make.Given as goal

-- the changes so far
abbrev pub invariant-loop-change : goal.invariant-loop-change
invariant-loop-change l = l.words ≡ with_changes l.fn.words (take l.change-index l.changes)
