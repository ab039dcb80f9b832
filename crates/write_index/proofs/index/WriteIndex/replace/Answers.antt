use Rattle.std.proofs.Common.{ℕ, length, drop, take, sym, ap, ◌∙◌, subst}
use Rattle.write_index.specs.Pages.{pages_at}
use Rattle.write_index.specs.Tree.{IsTree, bottom}
use Rattle.write_index.proofs.Putting.{deepened, deepened_view, on_err, others_put, same_take, tree_long, written_back}
use Rattle.write_index.proofs.index.WriteIndex.replace.Goals as goal

pub invariant_of-self : goal.invariant_of-self
invariant_of-self c = deepened c.self.inside.count c.self.inside.levels.items c.deepen.new.levels.items c.self.invariant c.deepen.ensures.few c.deepen.ensures.same

pub update-requires-clause-tree : goal.update-requires-clause-tree
update-requires-clause-tree c =
    let index = deepened c.self.inside.count c.self.inside.levels.items c.deepen.new.levels.items c.self.invariant c.deepen.ensures.few c.deepen.ensures.same in
    subst (λ levels. IsTree c.self.inside.count levels) (sym c.deref_mut.ensures.value) index.tree

pub returns-in_err-update-clause-same : goal.returns-in_err-update-clause-same
returns-in_err-update-clause-same c =
    let count = c.self.inside.count in
    let given = c.deepen.new.levels.items in
    let now = c.deref_mut.result.now in
    let new = c.update.new.levels in
    let index = deepened count c.self.inside.levels.items given c.self.invariant c.deepen.ensures.few c.deepen.ensures.same in
    let tree = subst (λ levels. IsTree count levels) (sym c.deref_mut.ensures.value) index.tree in
    let same = (c.in_err-update.ensures {u = tt}).same in
    on_err c.from_residual-in_err-update.result _
    (ap (λ levels. take count (bottom levels)) (written_back new (drop (length new) given) c.deepen.new.levels.len (sym (c.update.auto.levels ∙ c.deref_mut.ensures.len)))
    ∙ (same_take count (bottom now) (bottom new) (tree_long now count tree) (tree_long new count same.0) same.1
    ∙ (ap (λ levels. take count (bottom levels)) c.deref_mut.ensures.value
    ∙ (deepened_view count c.self.inside.levels.items given c.self.invariant c.deepen.ensures.same ∙ c.self.view_is))))

pub returns-clause-others : goal.returns-clause-others
returns-clause-others c = λ i other.
    let count = c.self.inside.count in
    let given = c.deepen.new.levels.items in
    let new = c.update.new.levels in
    let put = (c.in_ok-update.ensures {u = tt}).bottom in
    ap (λ levels. pages_at (take c.max-count.result (bottom levels)) i) (written_back new (drop (length new) given) c.deepen.new.levels.len (sym (c.update.auto.levels ∙ c.deref_mut.ensures.len)))
    ∙ (ap (λ (n : ℕ). pages_at (take n (bottom new)) i) c.max-count.ensures
    ∙ (others_put count c.args.index i _ (bottom c.deref_mut.result.now) (bottom new) put other
    ∙ (ap (λ levels. pages_at (take count (bottom levels)) i) c.deref_mut.ensures.value
    ∙ ap (λ sets. pages_at sets i) (deepened_view count c.self.inside.levels.items given c.self.invariant c.deepen.ensures.same ∙ c.self.view_is))))
