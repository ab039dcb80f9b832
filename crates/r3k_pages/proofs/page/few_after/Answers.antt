use Rattle.std.proofs.Common.{sym, subst, [], slice_index_or, ◌∙◌, arith}
use Rattle.r3k_pages.specs.Blocks.{IsBlockOf}
use Rattle.r3k_pages.proofs.Altered.{all_found, marked_found, none_found, unmarked_found}
use Rattle.r3k_pages.proofs.Blocks.{part_of}
use Rattle.r3k_pages.proofs.page.few_after.Goals as goal
use Rattle.r3k_pages.proofs.page.few_after.Goals.{else-is_marked-via-then-is_marked+else-not-add_differing, else-is_marked-via-else-is_marked}

pub loop-index-init : goal.loop-index-init
loop-index-init c =
    none_found c.args.whole.now c.args.words.now c.args.marks.now c.args.first c.args.changes.now c.unmarked-few.result.items c.has_all.ensures
    c.unmarked-few.ensures c.requires.same

pub loop-index-preserved : goal.loop-index-preserved
loop-index-preserved c =
    let whole = c.args.whole.now in
    let words = c.args.words.now in
    let marks = c.args.marks.now in
    let index = c.loop-index.index in
    let few = c.loop-index.few.items in
    elim c.else-is_marked.branch [
      | else-is_marked-via-then-is_marked+else-not-add_differing w ↦
          rw w.few-is
          (marked_found whole words marks c.args.first index few w.add_differing.new.changes.items w.words.result.now
          (slice_index_or c.as_chunks.result.0.now index []) (omega (arith, c.loop-index-test.true)) (sym c.is_marked.ensures ∙ w.if-is_marked.true)
          (subst (IsBlockOf whole index) (sym (w.words.ensures.words ∙ w.deref.ensures)) w.block.ensures)
          (part_of words c.as_chunks.result.0.now index c.as_chunks.ensures.front c.requires.words c.loop-index-test.true)
          (w.add_differing.ensures.set w.if-not-add_differing.false whole (omega (arith, c.loop-index-test.true, c.has_all.ensures)))
          (w.add_differing.ensures.others whole) c.loop-index.invariant)
      | else-is_marked-via-else-is_marked w ↦
          rw w.few-is
          (unmarked_found whole words marks c.args.first index few (omega (arith, c.loop-index-test.true)) (sym c.is_marked.ensures ∙ w.if-is_marked.false)
          c.loop-index.invariant)
    ]

pub returns : goal.returns
returns c =
    all_found c.args.whole.now c.args.words.now c.args.marks.now c.args.first c.loop-index.index c.loop-index.few.items c.has_all.ensures c.requires.words
    (omega (arith, c.loop-index-test.false)) c.loop-index.invariant
