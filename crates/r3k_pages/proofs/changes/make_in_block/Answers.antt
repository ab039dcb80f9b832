use Rattle.std.proofs.Common.{◌≡◌, ◌+◌, ◌%◌, ℕ, List, length, length-set, slice_index_or, slice_set, take, ap, subst, ◌∙◌, arith}
use Rattle.std.proofs.Math.Seq.{take-length}
use Rattle.std.proofs.lemmas.List.Sums.{fold_more}
use Rattle.r3k_pages.specs.Blocks.{IsBlockOf}
use Rattle.r3k_pages.specs.Changes.{with_changes}
use Rattle.r3k_pages.specs.declared.block.TheConstants.{BLOCK_WORDS}
use Rattle.r3k_pages.specs.declared.changes.Change.{Change}
use Rattle.r3k_pages.proofs.Altered.{as_many, made_elsewhere, made_here}
use Rattle.r3k_pages.proofs.changes.make_in_block.Goals as goal
use Rattle.r3k_pages.proofs.changes.make_in_block.Goals.{then-place-block, else-place-block}

pub loop-change-preserved : goal.loop-change-preserved
loop-change-preserved c =
    let index = c.loop-change.change-index in
    let changes = c.args.changes.now in
    let block = c.args.block in
    let change : Change = slice_index_or changes index (record { place = 0; word = 0 }) in
    let before : List ℕ → List ℕ = λ (page : List ℕ). with_changes page (take index changes) in
    let more : (page : List ℕ) → with_changes page (take (index + 1) changes) ≡ slice_set (before page) change.place change.word =
    λ page. fold_more (λ (words : List ℕ) (change : Change). slice_set words change.place change.word) page changes index (record { place = 0; word = 0 }) c.loop-change-test.true
    in
    let long : (page : List ℕ) → length (before page) ≡ length page = λ page. as_many page (take index changes) in
    elim c.if-place-block.branch [
      | then-place-block w ↦ record {
        whole = ap length w.words-is ∙ (length-set c.loop-change.words (change.place % BLOCK_WORDS) change.word ∙ c.loop-change.invariant.whole);
        so_far = λ page all is.
            rw (more page, w.words-is)
            (made_here (before page) block c.loop-change.words change.place change.word (omega (arith, all, long page)) c.loop-change.invariant.whole
            w.if-place-block.true (c.loop-change.invariant.so_far page all is));
      }
      | else-place-block w ↦ record {
        whole = ap length w.words-is ∙ c.loop-change.invariant.whole;
        so_far = λ page all is.
            rw (more page, w.words-is)
            (made_elsewhere (before page) block c.loop-change.words change.place change.word w.if-place-block.false (c.loop-change.invariant.so_far page all is));
      }
    ]

pub returns : goal.returns
returns c = λ page all is.
    let changes = c.args.changes.now in
    let taken : take c.loop-change.change-index changes ≡ changes =
    ap (λ (n : ℕ). take n changes) (let e : c.loop-change.change-index ≡ length changes = omega (arith, c.loop-change.auto.change-index-end, c.loop-change-test.false) in e)
    ∙ take-length changes
    in
    subst (λ (made : List Change). IsBlockOf (with_changes page made) c.args.block c.loop-change.words) taken (c.loop-change.invariant.so_far page all is)
