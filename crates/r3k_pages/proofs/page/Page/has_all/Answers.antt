use Rattle.std.proofs.Common.{sym, ap, length, ◌∙◌}
use Rattle.r3k_pages.proofs.Altered.{as_many}
use Rattle.r3k_pages.proofs.page.Page.has_all.Goals as goal

pub returns : goal.returns
returns c =
    ap length (sym c.self.view_is)
    ∙ (as_many c.self.inside.whole.value c.self.inside.few.items ∙ (ap length (sym c.deref.ensures) ∙ c.has_all.ensures))
