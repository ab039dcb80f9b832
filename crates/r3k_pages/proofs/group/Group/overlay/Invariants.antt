use Rattle.std.proofs.Common.{◌≡◌, ◌+◌, ◌<◌, ℕ, [], if◌then◌else◌, map, length, slice_index_or}
use Rattle.r3k_pages.specs.Pages.{holds}
use Rattle.r3k_pages.proofs.group.Group.overlay.Given as goal

-- the pages so far
abbrev pub invariant-loop-index : goal.invariant-loop-index
invariant-loop-index g l = record {
  count : length l.pages.items ≡ l.index;
  pages : (index : ℕ) → index < l.index →
      slice_index_or (map (λ page. page.value) l.pages.items) index [] ≡ slice_index_or (if holds l.set (l.first + index) then l.other else l.self) index [];
}
