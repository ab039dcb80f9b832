use Rattle.std.proofs.Common.{sym, ◌∙◌}
use Rattle.r3k_pages.proofs.Blank.{blank_same}
use Rattle.r3k_pages.proofs.page.Page.is_known_same.Goals as goal

pub returns-then-is_blank : goal.returns-then-is_blank
returns-then-is_blank c = λ blank.
    blank_same _ _ (c.has_all.ensures ∙ sym c.has_all-2.ensures) (c.is_blank.ensures c.if-is_blank.true) (c.is_blank-then-is_blank.ensures blank)
