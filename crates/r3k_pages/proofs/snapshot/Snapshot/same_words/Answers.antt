use Rattle.std.proofs.Common.{refl, sym, ap, length, ◌∙◌, arith}
use Rattle.r3k_pages.proofs.Kept.{all_same, words_long}
use Rattle.r3k_pages.proofs.snapshot.Snapshot.same_words.Goals as goal

pub returns : goal.returns
returns g c = (
  λ _.
      all_same c.args.differing.now c.args.self.now c.args.other.now
      (sym (ap length c.self.view_is) ∙ (words_long g.row.PAGES _ ∙ (sym (words_long g.row.PAGES _) ∙ ap length c.other.view_is)))
      c.requires (λ k within. c.loop-page.invariant k (omega (arith, within, c.loop-page-test.false, ap length c.pages-page-items.ensures.pages))),
  λ _. refl,
)
