use Rattle.std.proofs.Common.{◌≡◌, ◌+◌, ◌*◌, ◌++◌, List, [], ◌∷◌, refl, slice_index, sym, subst}
use Rattle.r3k_pages.specs.declared.block.TheConstants.{BLOCK_WORDS}
use Rattle.r3k_pages.specs.declared.changes.Change.{Change}
use Rattle.r3k_pages.proofs.Altered.{AreAdded, one_added, same_added}
use Rattle.r3k_pages.proofs.changes.add_differing.Goals as goal
use Rattle.r3k_pages.proofs.changes.add_differing.Goals.{then-words-index+else-is_full, else-words-index}

pub loop-index-preserved : goal.loop-index-preserved
loop-index-preserved c =
    let index = c.loop-index.index in
    let before = c.args.changes.now.items in
    let now = c.loop-index.changes.items in
    let change : Change = record { place = c.args.block * BLOCK_WORDS + index; word = slice_index c.args.words.now index } in
    elim c.if-words-index.branch [
      | then-words-index+else-is_full w ↦
          let added : c.if-words-index.changes.items ≡ now ++ change ∷ [] = rw w.changes-is w.push.ensures.items in
          subst (λ (changes : List Change). AreAdded c.args.block (index + 1) c.args.kept.now c.args.words.now before changes) (sym added)
          (one_added c.args.block index c.args.kept.now c.args.words.now before now change c.loop-index-test.true refl refl c.loop-index.invariant)
      | else-words-index w ↦
          rw w.changes-is (same_added c.args.block index c.args.kept.now c.args.words.now before now w.if-words-index.false c.loop-index.invariant)
    ]
