use Rattle.std.proofs.Common.{List, ℕ, ap, ◌∙◌, slice_index, slice_index_or, [], ◌%◌}
use Rattle.r3k_word.specs.Layout.{page_of_place}
use Rattle.r3k_word.specs.declared.layout.TheConstants.{PAGE_WORDS}
use Rattle.r3k_pages.specs.declared.group.TheConstants.{GROUP_PAGES}
use Rattle.r3k_pages.proofs.Kept.{kept_in}
use Rattle.r3k_pages.proofs.snapshot.Snapshot.group.Goals as goal

pub returns : goal.returns
returns g c =
    λ place within of.
    ap (λ kept. slice_index (slice_index_or kept.value (page_of_place place % GROUP_PAGES) []) (place % PAGE_WORDS)) c.index.ensures
    ∙ (kept_in (λ group. group.value) c.self.inside.groups.items c.index.result.now g.row.PAGES place c.args.group within of (rw c.self.invariant.0 c.requires)
    ∙ ap (λ (words : List ℕ). slice_index words place) c.self.view_is)
