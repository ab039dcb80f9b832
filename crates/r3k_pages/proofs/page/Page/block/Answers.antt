use Rattle.std.proofs.Common.{◌≡◌, ◌+◌, ◌*◌, List, ℕ, length, slice_index, sym, ap, subst, ◌∙◌, arith}
use Rattle.r3k_word.specs.declared.layout.TheConstants.{PAGE_WORDS}
use Rattle.r3k_pages.specs.declared.block.TheConstants.{BLOCK_WORDS}
use Rattle.r3k_pages.specs.Blocks.{IsBlockOf}
use Rattle.r3k_pages.specs.Changes.{with_changes}
use Rattle.r3k_pages.proofs.page.Page.block.Goals as goal

pub returns-clause-words : goal.returns-clause-words
returns-clause-words c =
    let page = c.self.inside.whole.value in
    let long : length page ≡ PAGE_WORDS = ap length (sym c.deref.ensures) ∙ c.has_all.ensures in
    let of : IsBlockOf page c.args.index c.copied-words.result =
    subst (λ (page : List ℕ). IsBlockOf page c.args.index c.copied-words.result) c.deref-2.ensures
    (subst (IsBlockOf c.deref-2.result.now c.args.index) (sym (c.copied-words.ensures ∙ c.deref-3.ensures)) c.block.ensures)
    in
    λ place low.
    c.make_in_block.ensures page (omega (arith, long, c.requires)) of place low
    ∙ ap (λ (words : List ℕ). slice_index words (c.args.index * BLOCK_WORDS + place)) (ap (with_changes page) c.deref-4.ensures.0 ∙ c.self.view_is)
