use Rattle.std.proofs.Common.{[], ◌≡◌, ◌+◌, ◌<◌, List, ℕ, length, max, ap, ◌∙◌, arith}
use Rattle.std.proofs.lemmas.List.{get_or-set_other, get_or-set_same}
use Rattle.r3k_pages.proofs.Ascending.{if_ok_too}
use Rattle.write_index.specs.Pages.{pages_at}
use Rattle.write_index.specs.Tree.{bottom}
use Rattle.write_index.proofs.Putting.{but_room, same_grown, tree_but}
use Rattle.write_index.proofs.tree.update.Goals as goal

pub returns-clause-bottom : goal.returns-clause-bottom
returns-clause-bottom c =
    let index = c.args.index in
    let before = bottom c.fill.new.levels in
    let count : c.max-count.result ≡ max c.args.held (index + 1) = grind arith in
    let inside : index < length before =
    but_room c.fill.new.levels index c.max-count.result (omega (arith, count))
    (tree_but c.fill.new.levels (max c.args.held index) index c.max-count.result (λ m within other. omega (arith, count, within, other))
    (c.fill.ensures.room c.max-count.result (c.in_ok-grow.ensures {u = tt}).room) (c.in_ok-fill.ensures {u = tt}).tree) in
    if_ok_too _ c.put.result c.put.ensures.bottom (λ _ put. record {
      there = ap (λ (spans : List (List ℕ)). pages_at spans index) put ∙ get_or-set_same before index c.args.set [] inside;
      kept = λ m within other.
          ap (λ (spans : List (List ℕ)). pages_at spans m) put
          ∙ (get_or-set_other before index m c.args.set [] other
          ∙ (c.fill.ensures.kept m within ∙ same_grown c.args.levels.now c.grow.new.levels c.args.held c.grow.ensures.grown c.requires.tree m within));
      none = λ m beyond below.
          ap (λ (spans : List (List ℕ)). pages_at spans m) put
          ∙ (get_or-set_other before index m c.args.set [] (λ e. absurd (omega (arith, e, below))) ∙ (c.in_ok-fill.ensures {u = tt}).none m beyond below);
    })
