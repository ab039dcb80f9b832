use Rattle.std.proofs.Common.{ℕ, List, Bool, ◌&&◌, not, sym, ap, ◌∙◌}
use Rattle.r3k_pages.specs.Pages.{holds}
use Rattle.r3k_pages.proofs.Removed.{marked_less}
use Rattle.r3k_pages.proofs.page_marks.PageMarks.remove.Goals as goal

pub invariant_of-self : goal.invariant_of-self
invariant_of-self g c =
    rw (c.keep_marked.ensures.room, c.keep_marked.ensures.kept, c.deref.ensures.value)
    (marked_less g.row.PAGES _ c.self.inside.marks.items c.unmark_all.new.marks.items c.self.inside.pages.items c.args.pages.now c.self.invariant
    c.unmark_all.ensures.long c.unmark_all.ensures.marked)

pub returns : goal.returns
returns g c =
    λ page.
    let are = invariant_of-self g c in
    sym (are.marked page)
    ∙ (c.unmark_all.ensures.marked page
    ∙ ap (λ (held : Bool). held && not (holds c.args.pages.now page)) (c.self.invariant.marked page ∙ ap (λ (set : List ℕ). holds set page) c.self.view_is))
