use Rattle.std.proofs.Common.{sym, ap, length, ◌∙◌}
use Rattle.r3k_pages.proofs.Blocks.{page_long}
use Rattle.r3k_pages.proofs.whole.Whole.has_all.Goals as goal

pub returns : goal.returns
returns c = ap length (sym c.self.view_is) ∙ page_long (λ block. block.value) c.self.inside.blocks c.self.invariant.0
