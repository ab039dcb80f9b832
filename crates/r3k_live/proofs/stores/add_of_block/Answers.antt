use Rattle.std.proofs.Common.{◌*◌, suc, sym, ◌∙◌, arith}
use Rattle.std.proofs.lemmas.List.{append-nil}
use Rattle.r3k_pages.specs.declared.block.TheConstants.{BLOCK_WORDS}
use Rattle.r3k_live.proofs.Writers.{none_yet, then_word}
use Rattle.r3k_live.proofs.stores.add_of_block.Goals as goal
use Rattle.r3k_live.proofs.stores.add_of_block.Goals.{in-Some+in_ok-push, in_default}

pub loop-place-init : goal.loop-place-init
loop-place-init c = none_yet c.args.written.now.items (c.args.block * BLOCK_WORDS) _ c.args.last.now (omega arith)

pub loop-place-preserved : goal.loop-place-preserved
loop-place-preserved c =
    let so_far = c.args.written.now.items in
    let now = c.loop-place.written.items in
    let place = c.loop-place.place in
    let first = c.args.block * BLOCK_WORDS in
    elim c.match-checked_sub.branch [
      | in-Some+in_ok-push w ↦
          let is = rw w.in-Some.is at c.checked_sub.ensures in
          rw w.written-is
          ((w.in_ok-push.ensures {u = tt}).items
          ∙ then_word so_far now first place (suc w.in-Some.step) c.args.last.now (omega (arith, c.loop-place.auto.place)) (omega (arith, is.0, is.1)) c.loop-place.invariant)
      | in_default w ↦
          let none = rw w.in_default.is at c.checked_sub.ensures in
          rw w.written-is
          (sym (append-nil now)
          ∙ then_word so_far now first place 0 c.args.last.now (omega (arith, c.loop-place.auto.place)) (omega (arith, none)) c.loop-place.invariant)
    ]
