use Rattle.std.proofs.Common.{◌*◌}
use Rattle.r3k_pages.specs.declared.block.TheConstants.{BLOCK_WORDS}
use Rattle.r3k_live.proofs.Holding.{held_block, held_unmarked}
use Rattle.r3k_live.proofs.stores.hold_page.Goals as goal
use Rattle.r3k_live.proofs.stores.hold_page.Goals.{else-blocks-block-via-then-blocks-block+else-not-hold_block, else-blocks-block-via-else-blocks-block}

pub loop-block-preserved : goal.loop-block-preserved
loop-block-preserved c =
    let first = c.args.page * 16 * BLOCK_WORDS in
    let block = c.loop-block.block in
    let last = c.args.last.now in
    let words = c.args.words.now in
    let old = c.args.held.now.items in
    let held = c.loop-block.held.items in
    elim c.else-blocks-block.branch [
      | else-blocks-block-via-then-blocks-block+else-not-hold_block w ↦
          rw w.held-is
          (held_block c.args.since first block last words old held w.hold_block.new.held.items w.hold_block.ensures.are w.hold_block.ensures.more
          (w.hold_block.ensures.all w.if-not-hold_block.false) c.loop-block.invariant)
      | else-blocks-block-via-else-blocks-block w ↦
          rw w.held-is
          (held_unmarked c.args.since first block last words c.args.blocks.now old held c.requires.marked w.if-blocks-block.false c.loop-block.invariant)
    ]
