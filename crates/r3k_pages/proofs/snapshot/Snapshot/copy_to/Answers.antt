use Rattle.std.proofs.Common.{◌∙◌, sym, ap, length, arith}
use Rattle.std.proofs.lemmas.Grind.{same_number_lists}
use Rattle.r3k_pages.proofs.Kept.{words_long}
use Rattle.r3k_pages.proofs.snapshot.Snapshot.copy_to.Goals as goal

pub returns : goal.returns
returns g c =
    same_number_lists c.loop-page.words c.args.self.now
    (c.loop-page.invariant.whole ∙ sym (ap length (sym c.self.view_is) ∙ words_long g.row.PAGES _))
    (λ place within. c.loop-page.invariant.same place (omega (arith, within, c.loop-page.invariant.whole, c.loop-page-test.false, c.page_count-page-end.ensures)))
