use Rattle.std.proofs.Common.{◌≡◌, ◌<◌, ℕ, ◌/◌, map, length, slice_index}
use Rattle.r3k_word.specs.Layout.{page_of_place, word_count_of}
use Rattle.r3k_pages.specs.declared.group.TheConstants.{GROUP_PAGES}
use Rattle.r3k_pages.specs.Groups.{word_in}
use Rattle.r3k_pages.proofs.snapshot.Snapshot.made.Given as goal

-- the groups so far
abbrev pub invariant-loop-group : goal.invariant-loop-group
invariant-loop-group g l = record {
  count : length l.groups.items ≡ l.group;
  groups : (place : ℕ) → place < word_count_of g.row.PAGES → page_of_place place / GROUP_PAGES < l.group →
      word_in (map (λ group. group.value) l.groups.items) place ≡ slice_index l.words place;
}
