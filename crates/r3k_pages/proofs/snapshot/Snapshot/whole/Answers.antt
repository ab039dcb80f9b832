use Rattle.std.proofs.Common.{ap, length, sym, ◌∙◌}
use Rattle.r3k_pages.proofs.Kept.{words_long}
use Rattle.r3k_pages.proofs.snapshot.Snapshot.whole.Goals as goal

pub returns : goal.returns
returns g c = sym (ap length c.self.view_is) ∙ words_long g.row.PAGES _
