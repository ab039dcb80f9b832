use Rattle.std.proofs.Common.{◌∙◌}
use Rattle.r3k_pages.proofs.Marked.{none_marked}
use Rattle.r3k_pages.proofs.page_marks.PageMarks.clear.Goals as goal

pub invariant_of-self : goal.invariant_of-self
invariant_of-self g c =
    let is = c.fill.ensures.items (λ y same. same) in
    rw (c.clear.ensures.items, c.clear.ensures.capacity) (none_marked g.row.PAGES _ _ c.fill.new.self.items c.self.invariant.few is (c.self.inside.marks.ok.0 ∙ c.self.invariant.long) c.self.invariant.fits)
