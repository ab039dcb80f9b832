use Rattle.std.proofs.Common.{◌≡◌, ◌/◌, ◌<◌, List, ℕ, false, length, nat_eq, sym, ap, subst, ◌∙◌, arith, rules}
use Rattle.std.specs.List.{list_any}
use Rattle.std.proofs.lemmas.Bool.{true≢false}
use Rattle.r3k_word.specs.declared.layout.TheConstants.{PAGE_WORDS}
use Rattle.r3k_pages.specs.declared.block.TheConstants.{BLOCK_WORDS}
use Rattle.r3k_pages.specs.declared.page.TheConstants.{PAGE_BLOCKS}
use Rattle.r3k_pages.specs.declared.changes.Change.{Change}
use Rattle.r3k_pages.specs.Blocks.{IsBlockOf}
use Rattle.r3k_pages.specs.Changes.{with_changes}
use Rattle.r3k_pages.proofs.Altered.{block_untouched, same_block}
use Rattle.r3k_pages.proofs.page.Page.is_same_block.Goals as goal
use Rattle.r3k_pages.proofs.page.Page.is_same_block.Goals.{then-touch, else-touch}

pub returns-then-touch-2 : goal.returns-then-touch-2
returns-then-touch-2 c =
    same_block c.args.self.now c.args.other.now c.block.result c.block-then-touch-2.result c.args.index c.eq.result c.block.ensures.words
    c.block-then-touch-2.ensures.words c.block.ensures.whole c.block-then-touch-2.ensures.whole (λ yes. search rules) (λ same. search rules)

-- a block that no change touches is that of the whole page
plain : (whole page : List ℕ) (few changes : List Change) (index : ℕ) (block : List ℕ) → with_changes whole few ≡ page → changes ≡ few → length whole ≡ PAGE_WORDS
    → index < PAGE_BLOCKS → list_any (λ change. nat_eq (change.place / BLOCK_WORDS) index) changes ≡ false → IsBlockOf whole index block → IsBlockOf page index block
plain whole page few changes index block view same long within none is =
    subst (λ (page : List ℕ). IsBlockOf page index block) (ap (with_changes whole) same ∙ view)
    (block_untouched whole changes index block (omega (arith, long, within)) none is)

pub returns-else-touch-2 : goal.returns-else-touch-2
returns-else-touch-2 c =
    let index = c.args.index in
    let own = c.self.inside.whole.value in
    let others = c.other.inside.whole.value in
    let x = c.deref-else-touch-2-2.result.now in
    let y = c.deref-else-touch-2-4.result.now in
    let of_own : IsBlockOf own index x =
    subst (λ (page : List ℕ). IsBlockOf page index x) c.deref-else-touch-2.ensures
    (subst (IsBlockOf c.deref-else-touch-2.result.now index) (sym c.deref-else-touch-2-2.ensures) c.block-else-touch-2.ensures)
    in
    let of_others : IsBlockOf others index y =
    subst (λ (page : List ℕ). IsBlockOf page index y) c.deref-else-touch-2-3.ensures
    (subst (IsBlockOf c.deref-else-touch-2-3.result.now index) (sym c.deref-else-touch-2-4.ensures) c.block-else-touch-2-2.ensures)
    in
    elim c.if-touch.branch [
      | then-touch w ↦ absurd (true≢false (sym w.if-touch.true ∙ (sym w.value-is ∙ c.if-touch-2.false)))
      | else-touch w ↦
          same_block c.args.self.now c.args.other.now x y index c.is_same.result
          (plain own c.args.self.now c.self.inside.few.items c.deref-3.result.now index x c.self.view_is c.deref-3.ensures.0
          (ap length (sym c.deref.ensures) ∙ c.has_all.ensures) c.requires (sym c.touch.ensures ∙ w.if-touch.false) of_own)
          (plain others c.args.other.now c.other.inside.few.items w.deref-else-touch.result.now index y c.other.view_is w.deref-else-touch.ensures.0
          (ap length (sym c.deref-2.ensures) ∙ c.has_all-2.ensures) c.requires (sym w.touch-else-touch.ensures ∙ (sym w.value-is ∙ c.if-touch-2.false)) of_others)
          c.is_same.ensures.whole.0 c.is_same.ensures.whole.1 c.is_same.ensures.same.0 c.is_same.ensures.same.1
    ]
