use Rattle.std.proofs.Common.{◌≡◌, ◌++◌, List, ℕ, [], ◌∷◌, filter, nat_eq, not, slice_set, ap, ◌∙◌}
use Rattle.r3k_pages.specs.Changes.{with_changes}
use Rattle.r3k_pages.specs.declared.changes.Change.{Change}
use Rattle.r3k_pages.proofs.Altered.{set_after}
use Rattle.r3k_pages.proofs.Kept.{if_ok}
use Rattle.r3k_pages.proofs.page.Page.with_word.Goals as goal

pub returns-clause-set : goal.returns-clause-set
returns-clause-set c =
    let whole = c.self.inside.whole.value in
    let few = c.self.inside.few.items in
    let others : List Change → List Change = λ (changes : List Change). filter (λ (change : Change). not (nat_eq change.place c.args.place)) changes in
    let change : Change = record { place = c.args.place; word = c.args.word } in
    let now : c.push.new.self.items ≡ others few ++ change ∷ [] =
    c.push.ensures.items ∙ ap (λ (changes : List Change). changes ++ change ∷ []) (c.elsewhere-few.ensures ∙ ap others c.deref.ensures.0)
    in
    if_ok _ _ c.of.result c.of.ensures
    (λ page is.
    is
    ∙ (ap (λ (words : List ℕ). with_changes words c.push.new.self.items) (c.in_ok-clone.ensures {u = tt}).cases
    ∙ (ap (with_changes whole) now
    ∙ (set_after whole few c.args.place c.args.word ∙ ap (λ (words : List ℕ). slice_set words c.args.place c.args.word) c.self.view_is))))
