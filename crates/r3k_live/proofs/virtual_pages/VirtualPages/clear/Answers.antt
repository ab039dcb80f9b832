use Rattle.std.proofs.Common.{◌∙◌, ap, List, ℕ, slice_index_or, ◌&&◌, not, false}
use Rattle.r3k_pages.specs.Pages.{holds}
use Rattle.r3k_live.proofs.Noted.{none_left, none_noted}
use Rattle.r3k_live.proofs.virtual_pages.VirtualPages.clear.Goals as goal

pub unmark_all-requires : goal.unmark_all-requires
unmark_all-requires c = rw (c.deref.ensures.value, c.self.invariant.long) c.self.invariant.within

pub invariant_of-self : goal.invariant_of-self
invariant_of-self c =
    rw (c.clear.ensures.items, c.clear.ensures.capacity)
    (none_noted _ c.unmark_all.new.marks.items (c.unmark_all.ensures.long ∙ c.self.invariant.long)
    (λ page. none_left c.self.inside.pages.items c.self.inside.marks.items c.unmark_all.new.marks.items page (c.self.invariant.marked page)
    (c.unmark_all.ensures.marked page ∙ ap (λ (set : List ℕ). slice_index_or c.self.inside.marks.items page false && not (holds set page)) c.deref.ensures.value))
    c.self.invariant.fits)
