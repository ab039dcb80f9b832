use Rattle.std.proofs.Common.{List, ℕ, ap, arith, length, sym, ◌∙◌, slice_index, slice_index_or, [], ◌%◌}
use Rattle.r3k_word.specs.Layout.{page_of_place}
use Rattle.r3k_word.specs.declared.layout.TheConstants.{PAGE_WORDS}
use Rattle.r3k_pages.specs.declared.group.TheConstants.{GROUP_PAGES}
use Rattle.r3k_pages.proofs.Kept.{if_ok, words_long}
use Rattle.r3k_pages.proofs.Overlaid.{group_overlaid, overlaid_outside}
use Rattle.r3k_pages.proofs.snapshot.Snapshot.overlaid_group.Goals as goal

pub returns-then-not-touches : goal.returns-then-not-touches
returns-then-not-touches g c =
    if_ok _ _ c.clone.result c.clone.ensures.cases
    (λ copy same place within of.
    ap (λ (kept : List (List ℕ)). slice_index (slice_index_or kept (page_of_place place % GROUP_PAGES) []) (place % PAGE_WORDS)) same
    ∙ (c.group-own.ensures place within of
    ∙ overlaid_outside c.args.pages.now c.args.self.now c.args.other.now place
    (c.touches.ensures c.if-not-touches.true (page_of_place place) of)))

pub returns : goal.returns
returns g c =
    if_ok _ _ c.overlay.result c.overlay.ensures
    (λ merged each place within of.
    group_overlaid g.row.PAGES c.args.group c.args.pages.now c.args.self.now c.args.other.now c.deref.result.now c.deref-2.result.now merged.value place within of
    (sym (ap length c.self.view_is) ∙ words_long g.row.PAGES _)
    (each (page_of_place place % GROUP_PAGES) (omega arith))
    (rw c.deref.ensures (c.group-own.ensures place within of))
    (rw c.deref-2.ensures (c.group.ensures place within of)))
