use Rattle.std.proofs.Common.{List, ℕ, ap, ◌∙◌, subst}
use Rattle.std.specs.List.Sorted.{IsBinarySearchResult}
use Rattle.std.specs.Ordering.{nat_cmp}
use Rattle.r3k_pages.specs.Pages.{holds}
use Rattle.write_index.proofs.Merge.{searched_for}
use Rattle.write_index.proofs.page_set.PageSet.holds.Goals as goal

pub returns : goal.returns
returns c =
    let found = subst (λ (xs : List ℕ). IsBinarySearchResult (λ y. nat_cmp y c.args.page) xs c.binary_search.result) c.deref.ensures.value c.binary_search.ensures.position in
    c.is_ok.ensures.value ∙ (searched_for c.self.inside.pages.items c.args.page c.binary_search.result c.self.invariant found ∙ ap (λ (xs : List ℕ). holds xs c.args.page) c.self.view_is)
