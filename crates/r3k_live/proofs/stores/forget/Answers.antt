use Rattle.std.proofs.Common.{◌/◌, false, slice_index, slice_index_or, sym, ◌∙◌, arith, inl, inr}
use Rattle.std.proofs.lemmas.Bool.{cases_Bool, cases_lt, true≢false}
use Rattle.std.proofs.lemmas.List.{get_or_past}
use Rattle.r3k_word.specs.Layout.{page_of_place}
use Rattle.r3k_pages.specs.declared.page.TheConstants.{PAGE_BLOCKS}
use Rattle.r3k_live.proofs.Holding.{one_page_more}
use Rattle.r3k_live.proofs.stores.forget.Goals as goal
use Rattle.r3k_live.proofs.stores.forget.Goals.{then-page, else-page}

pub loop-page-preserved : goal.loop-page-preserved
loop-page-preserved g c =
    let so_far = c.loop-page.invariant in
    let pages = c.args.pages.now in
    let k = c.loop-page.page-index in
    let last = c.loop-page.last.items in
    let blocks = c.loop-page.blocks.items in
    elim c.if-page.branch [
      | then-page w ↦
          let forgotten = w.forget_page.ensures in
          rw (w.last-is, w.blocks-is) (record {
            long = forgotten.long ∙ so_far.long;
            whole = forgotten.whole ∙ so_far.whole;
            blocks = forgotten.blocks;
            left = λ place some. so_far.left place (forgotten.fewer place some);
            none = λ place there.
                elim (one_page_more pages k (page_of_place place) c.loop-page-test.true there) [
                  | inl before ↦
                      elim (cases_lt 0 (slice_index w.forget_page.new.last.items place)) [
                        | inl some ↦ absurd (let e : ⊥ = omega (arith, forgotten.fewer place some, so_far.none place before) in e)
                        | inr none ↦ omega (arith, none)
                      ]
                  | inr here ↦ forgotten.none place here
                ];
            left_marked = λ block marked. so_far.left_marked block (forgotten.fewer_marked block marked);
            unmarked = λ block there.
                elim (one_page_more pages k (block / PAGE_BLOCKS) c.loop-page-test.true there) [
                  | inl before ↦
                      elim (cases_Bool (slice_index_or w.forget_page.new.blocks.items block false)) [
                        | inl marked ↦ absurd (true≢false (sym (forgotten.fewer_marked block marked) ∙ so_far.unmarked block before))
                        | inr unmarked ↦ unmarked
                      ]
                  | inr here ↦ forgotten.unmarked block here
                ];
          })
      | else-page w ↦
          rw (w.last-is, w.blocks-is) (record {
            long = so_far.long;
            whole = so_far.whole;
            blocks = so_far.blocks;
            left = so_far.left;
            none = λ place there.
                elim (one_page_more pages k (page_of_place place) c.loop-page-test.true there) [
                  | inl before ↦ so_far.none place before
                  | inr here ↦ get_or_past last place 0 (omega (arith, here, so_far.long, c.requires.long, w.if-page.false))
                ];
            left_marked = so_far.left_marked;
            unmarked = λ block there.
                elim (one_page_more pages k (block / PAGE_BLOCKS) c.loop-page-test.true there) [
                  | inl before ↦ so_far.unmarked block before
                  | inr here ↦ get_or_past blocks block false (omega (arith, here, so_far.whole, c.requires.whole, w.if-page.false))
                ];
          })
    ]
