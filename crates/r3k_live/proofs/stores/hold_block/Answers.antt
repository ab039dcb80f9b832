use Rattle.std.proofs.Common.{◌*◌, arith}
use Rattle.r3k_pages.specs.declared.block.TheConstants.{BLOCK_WORDS}
use Rattle.r3k_live.proofs.Holding.{held_none, held_one}
use Rattle.r3k_live.proofs.stores.hold_block.Goals as goal
use Rattle.r3k_live.proofs.stores.hold_block.Goals.{then-last-place+else-is_full, else-last-place}

pub loop-place-preserved : goal.loop-place-preserved
loop-place-preserved c =
    let first = c.args.block * BLOCK_WORDS in
    let place = c.loop-place.place in
    elim c.if-last-place.branch [
      | then-last-place+else-is_full w ↦
          held_one c.args.since first place c.args.last.now c.args.words.now c.args.held.now.items c.loop-place.held.items c.if-last-place.held.items
          (omega (arith, c.requires.within, c.loop-place-test.true)) w.if-last-place.true (rw w.held-is w.push.ensures.items) c.loop-place.invariant
      | else-last-place w ↦
          rw w.held-is
          (held_none c.args.since first place c.args.last.now c.args.words.now c.args.held.now.items c.loop-place.held.items (omega (arith, w.if-last-place.false)) c.loop-place.invariant)
    ]
