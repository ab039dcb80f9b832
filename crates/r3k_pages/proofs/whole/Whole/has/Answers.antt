use Rattle.std.proofs.Common.{[], slice_index_or, subst, sym, ◌∙◌, arith}
use Rattle.std.proofs.lemmas.Grind.{same_number_lists}
use Rattle.r3k_pages.specs.Blocks.{IsBlockOf}
use Rattle.r3k_pages.proofs.Blocks.{part_of, same_kept, same_more}
use Rattle.r3k_pages.proofs.whole.Whole.has.Goals as goal

pub loop-index-preserved : goal.loop-index-preserved
loop-index-preserved c =
    let index = c.loop-index.index in
    same_more c.args.self.now c.args.words.now index
    (same_kept c.args.self.now c.args.words.now c.deref.result.now (slice_index_or c.as_chunks.result.0.now index []) index
    (subst (IsBlockOf c.args.self.now index) (sym c.deref.ensures) c.block.ensures)
    (part_of c.args.words.now c.as_chunks.result.0.now index c.as_chunks.ensures.front c.requires c.loop-index-test.true)
    (c.has.ensures.0 c.if-not-has.false))
    c.loop-index.invariant

pub returns : goal.returns
returns c = λ _.
    same_number_lists c.args.self.now c.args.words.now (c.has_all.ensures ∙ sym c.requires)
    (λ place within. c.loop-index.invariant place (omega (arith, within, c.has_all.ensures, c.loop-index-test.false)))
