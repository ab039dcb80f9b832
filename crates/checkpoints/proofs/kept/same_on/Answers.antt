use Rattle.std.proofs.Common.{refl, sym, ◌∙◌, arith}
use Rattle.r3k_pages.proofs.Kept.{held_at}
use Rattle.checkpoints.proofs.kept.same_on.Goals as goal

pub returns : goal.returns
returns g c = (
  λ _ page held place of.
      let at = held_at c.args.set.now page held in
      c.loop-page.invariant at.0 (omega (arith, at.1, c.loop-page-test.false)) place (of ∙ sym at.2),
  λ _. refl,
)
