use Rattle.std.proofs.Common.{◌≡◌, List, ℕ, length, slice_index, sym, ap, ◌∙◌, arith}
use Rattle.r3k_word.specs.declared.layout.TheConstants.{PAGE_WORDS}
use Rattle.r3k_pages.specs.Changes.{word_after}
use Rattle.r3k_pages.proofs.Altered.{at_place}
use Rattle.r3k_pages.proofs.page.Page.word.Goals as goal

pub returns : goal.returns
returns c =
    let whole = c.self.inside.whole.value in
    let few = c.self.inside.few.items in
    let place = c.args.place in
    let long : length whole ≡ PAGE_WORDS = ap length (sym c.deref.ensures) ∙ c.has_all.ensures in
    let before : c.word.result ≡ slice_index whole place = c.word.ensures ∙ ap (λ (words : List ℕ). slice_index words place) c.deref-3.ensures in
    c.word_after.ensures
    ∙ (ap (word_after place c.word.result) c.deref-2.ensures.0
    ∙ (ap (λ (word : ℕ). word_after place word few) before
    ∙ (sym (at_place whole few place (omega (arith, long, c.requires))) ∙ ap (λ (words : List ℕ). slice_index words place) c.self.view_is)))
