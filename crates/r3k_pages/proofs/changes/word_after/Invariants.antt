use Rattle.std.proofs.Common.{◌≡◌, take}
use Rattle.r3k_pages.specs.Changes.{word_after}
use Rattle.r3k_pages.proofs.changes.word_after.Given as goal

-- the changes so far
abbrev pub invariant-loop-change : goal.invariant-loop-change
invariant-loop-change l = l.word ≡ word_after l.place l.fn.before (take l.change-index l.changes)
