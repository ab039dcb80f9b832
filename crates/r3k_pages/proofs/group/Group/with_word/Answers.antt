use Rattle.std.proofs.Common.{ap, ◌∙◌, List, ℕ, slice_set, slice_index_or, []}
use Rattle.r3k_pages.proofs.Kept.{if_ok}
use Rattle.r3k_pages.proofs.Set.{pointer_set}
use Rattle.r3k_pages.proofs.group.Group.with_word.Goals as goal

pub returns-clause-set : goal.returns-clause-set
returns-clause-set c =
    if_ok _ _ c.new.result c.new.ensures
    (λ group is.
    is
    ∙ pointer_set (λ page. page.value) c.in_ok-pages.pages.items c.args.self.now c.args.index c.in_ok-pages-2.field-0
    (slice_set (slice_index_or c.args.self.now c.args.index []) c.args.place c.args.word)
    (c.in_ok-pages.ensures ∙ c.self.view_is)
    (c.in_ok-pages-2.ensures.set ∙ ap (λ (words : List ℕ). slice_set words c.args.place c.args.word) (c.deref.ensures ∙ c.page.ensures)))
