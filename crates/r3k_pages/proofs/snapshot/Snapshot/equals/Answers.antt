use Rattle.std.proofs.Common.{refl, sym, ap, length, ◌∙◌, arith}
use Rattle.r3k_pages.proofs.Kept.{all_pages_same, words_long}
use Rattle.r3k_pages.proofs.snapshot.Snapshot.equals.Goals as goal

pub returns : goal.returns
returns g c = (
  λ _.
      all_pages_same g.row.PAGES c.args.self.now c.args.other.now
      (sym (ap length c.self.view_is) ∙ words_long g.row.PAGES _) (sym (ap length c.other.view_is) ∙ words_long g.row.PAGES _)
      (λ page within. c.loop-page.invariant page (omega (arith, within, c.loop-page-test.false))),
  λ _. refl,
)
