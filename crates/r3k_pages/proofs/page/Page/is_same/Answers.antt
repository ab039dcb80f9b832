use Rattle.std.proofs.Common.{◌∙◌, sym, refl, arith}
use Rattle.std.proofs.lemmas.Grind.{same_number_lists}
use Rattle.r3k_pages.proofs.Blocks.{same_more}
use Rattle.r3k_pages.proofs.page.Page.is_same.Goals as goal

pub loop-index-preserved : goal.loop-index-preserved
loop-index-preserved c =
    same_more c.args.self.now c.args.other.now c.loop-index.index (c.is_same_block.ensures.0 c.if-not-is_same_block.false) c.loop-index.invariant

pub returns-clause-same : goal.returns-clause-same
returns-clause-same c = (
  λ _.
      same_number_lists c.args.self.now c.args.other.now (c.has_all.ensures ∙ sym c.has_all-2.ensures)
      (λ place within. c.loop-index.invariant place (omega (arith, within, c.has_all.ensures, c.loop-index-test.false))),
  λ _. refl,
)
