use Rattle.std.proofs.Common.{List, ℕ, ap, ◌∙◌, slice_index, slice_index_or, [], ◌%◌}
use Rattle.r3k_word.specs.Layout.{page_of_place}
use Rattle.r3k_word.specs.declared.layout.TheConstants.{PAGE_WORDS}
use Rattle.r3k_pages.specs.declared.group.TheConstants.{GROUP_PAGES}
use Rattle.r3k_pages.proofs.Kept.{if_ok, if_some}
use Rattle.r3k_pages.proofs.group.group_of.Goals as goal

pub returns-in-Some : goal.returns-in-Some
returns-in-Some g c =
    if_ok _ _ c.clone.result c.clone.ensures.cases
    (λ copy same place within of.
    ap (λ (kept : List (List ℕ)). slice_index (slice_index_or kept (page_of_place place % GROUP_PAGES) []) (place % PAGE_WORDS)) same
    ∙ (c.group.ensures place within of
    ∙ if_some _ c.args.previous c.in-Some.previous c.in-Some.is c.requires.same place
    (c.touches.ensures c.if-not-touches.true (page_of_place place) of)))
