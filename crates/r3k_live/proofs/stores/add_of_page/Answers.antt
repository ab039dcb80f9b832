use Rattle.std.proofs.Common.{◌+◌, ◌-◌, ◌*◌, List, ◌++◌, sym, ap, ◌∙◌, arith}
use Rattle.std.proofs.lemmas.List.{append-nil}
use Rattle.r3k_word.specs.declared.layout.TheConstants.{PAGE_WORDS}
use Rattle.r3k_live.specs.declared.recorder.Written.{Written}
use Rattle.r3k_pages.specs.declared.block.TheConstants.{BLOCK_WORDS}
use Rattle.r3k_live.proofs.Writers.{in_unmarked, none_yet, then_words}
use Rattle.r3k_live.proofs.stores.add_of_page.Goals as goal
use Rattle.r3k_live.proofs.stores.add_of_page.Goals.{then-blocks-block+in_ok-add_of_block, else-blocks-block}

pub loop-block-init : goal.loop-block-init
loop-block-init c = none_yet c.args.written.now.items (c.args.page * PAGE_WORDS) _ c.args.last.now (omega arith)

pub loop-block-preserved : goal.loop-block-preserved
loop-block-preserved c =
    let last = c.args.last.now in
    let now = c.loop-block.written.items in
    let block = c.loop-block.block in
    let least = c.loop-block.auto.block in
    let more = then_words c.args.written.now.items now (c.args.page * PAGE_WORDS) ((block - c.args.page * 16) * BLOCK_WORDS) (block * BLOCK_WORDS) BLOCK_WORDS
    ((block + 1 - c.args.page * 16) * BLOCK_WORDS) last (omega (arith, least)) (omega (arith, least)) c.loop-block.invariant in
    elim c.if-blocks-block.branch [
      | then-blocks-block+in_ok-add_of_block w ↦ rw w.written-is (w.in_ok-add_of_block.ensures {u = tt} ∙ more)
      | else-blocks-block w ↦
          rw w.written-is
          (sym (ap (λ (ws : List Written). now ++ ws) (in_unmarked last c.args.blocks.now block c.requires.marked (w.if-blocks-block.false)) ∙ append-nil now) ∙ more)
    ]
