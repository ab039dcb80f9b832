use Rattle.std.proofs.Common.{◌≡◌, ◌+◌, List, ℕ, slice_index_or, slice_set, take, sym, ap, ◌∙◌}
use Rattle.std.proofs.lemmas.List.{set_past}
use Rattle.std.proofs.lemmas.List.Sums.{fold_more}
use Rattle.r3k_pages.specs.Changes.{with_changes}
use Rattle.r3k_pages.specs.declared.changes.Change.{Change}
use Rattle.r3k_pages.proofs.changes.make.Goals as goal
use Rattle.r3k_pages.proofs.changes.make.Goals.{then-place-words, else-place-words}

pub loop-change-preserved : goal.loop-change-preserved
loop-change-preserved c =
    let index = c.loop-change.change-index in
    let changes = c.args.changes.now in
    let change : Change = slice_index_or changes index (record { place = 0; word = 0 }) in
    let more : with_changes c.args.words.now (take (index + 1) changes) ≡ slice_set (with_changes c.args.words.now (take index changes)) change.place change.word =
    fold_more (λ (words : List ℕ) (change : Change). slice_set words change.place change.word) c.args.words.now changes index (record { place = 0; word = 0 }) c.loop-change-test.true
    in
    let so_far : slice_set c.loop-change.words change.place change.word ≡ with_changes c.args.words.now (take (index + 1) changes) =
    ap (λ (words : List ℕ). slice_set words change.place change.word) c.loop-change.invariant ∙ sym more
    in
    elim c.if-place-words.branch [
      | then-place-words w ↦ w.words-is ∙ so_far
      | else-place-words w ↦ w.words-is ∙ (sym (set_past c.loop-change.words change.place change.word w.if-place-words.false) ∙ so_far)
    ]
