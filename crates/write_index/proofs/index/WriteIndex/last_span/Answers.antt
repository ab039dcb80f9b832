use Rattle.std.proofs.Common.{◌≡◌, ◌≤◌, Some, min, sym, subst, arith}
use Rattle.write_index.specs.Pages.{IsLast}
use Rattle.write_index.specs.Tree.{IsTree, bottom}
use Rattle.write_index.proofs.Putting.{tree_less}
use Rattle.write_index.proofs.Searching.{last_held}
use Rattle.write_index.proofs.index.WriteIndex.last_span.Goals as goal

pub last_in-requires : goal.last_in-requires
last_in-requires c =
    let end : c.min-end.result ≤ c.self.inside.count = grind arith in
    record { tree = subst (λ levels. IsTree c.min-end.result levels) (sym c.deref.ensures.value) (tree_less c.self.inside.levels.items c.self.inside.count c.min-end.result end c.self.invariant.tree) }

pub returns-clause-last : goal.returns-clause-last
returns-clause-last c =
    let end : c.min-end.result ≡ min c.self.inside.count c.args.before = grind arith in
    subst (λ sets. IsLast sets c.args.page c.args.before (Some c.in_ok-span.span)) c.self.view_is
    (last_held (bottom c.self.inside.levels.items) c.self.inside.count c.args.page c.args.before c.min-end.result (Some c.in_ok-span.span) end
    (subst (λ levels. IsLast (bottom levels) c.args.page c.min-end.result (Some c.in_ok-span.span)) c.deref.ensures.value (c.in_ok-span.ensures {u = tt}).last))
