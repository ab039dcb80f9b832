use Rattle.std.proofs.Common.{List, ℕ, ap, ◌∙◌, ◌*◌, ◌+◌, slice_index}
use Rattle.r3k_pages.specs.declared.block.TheConstants.{BLOCK_WORDS}
use Rattle.r3k_pages.proofs.Blocks.{kept_block}
use Rattle.r3k_pages.proofs.whole.Whole.block.Goals as goal

pub returns : goal.returns
returns c =
    λ place low.
    kept_block (λ block. block.value) c.self.inside.blocks c.index-self-index.result c.args.index place (rw c.self.invariant.0 c.requires) low
    ∙ ap (λ (words : List ℕ). slice_index words (c.args.index * BLOCK_WORDS + place)) c.self.view_is
