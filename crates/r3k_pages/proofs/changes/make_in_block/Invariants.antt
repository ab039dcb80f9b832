use Rattle.std.proofs.Common.{◌≡◌, ◌+◌, ◌*◌, ◌≤◌, ℕ, List, length, take}
use Rattle.r3k_pages.specs.Blocks.{IsBlockOf}
use Rattle.r3k_pages.specs.Changes.{with_changes}
use Rattle.r3k_pages.specs.declared.block.TheConstants.{BLOCK_WORDS}
use Rattle.r3k_pages.proofs.changes.make_in_block.Given as goal

-- the changes so far
abbrev pub invariant-loop-change : goal.invariant-loop-change
invariant-loop-change l = record {
  whole : length l.words ≡ BLOCK_WORDS;
  so_far : (page : List ℕ) → (l.block + 1) * BLOCK_WORDS ≤ length page → IsBlockOf page l.block l.fn.words
      → IsBlockOf (with_changes page (take l.change-index l.changes)) l.block l.words;
}
