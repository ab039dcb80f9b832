use Rattle.std.proofs.Common.{sym, ap, subst, not, ◌∙◌}
use Rattle.std.specs.FinMap as map
use Rattle.r3k_asm.specs.Labels.{names, AreSorted}
use Rattle.r3k_asm.proofs.LabelMap.{insert_keeps, inserted, was_none, labels_of}
use Rattle.r3k_asm.proofs.labels.Labels.insert.Goals as goal

pub invariant_of-self-2 : goal.invariant_of-self-2
invariant_of-self-2 c =
    subst (λ es. AreSorted (names es)) (sym c.in_ok-old.ensures.entries) (insert_keeps c.self.inside.labels.entries c.as_bytes.result c.args.address c.self.invariant)

pub returns-clause-new : goal.returns-clause-new
returns-clause-new c =
    was_none c.as_bytes.result c.self.inside.labels.entries c.in_ok-old.old c.is_none.result c.self.invariant c.is_none.ensures c.in_ok-old.ensures.old
    ∙ ap (λ m. not (map.contains_key m c.as_bytes.result.now)) c.self.view_is ∙ ap (λ k. not (map.contains_key c.args.self.now k)) c.as_bytes.ensures

pub returns-clause-labels : goal.returns-clause-labels
returns-clause-labels c =
    ap labels_of c.in_ok-old.ensures.entries ∙ inserted c.self.inside.labels.entries c.as_bytes.result c.args.address c.self.invariant
    ∙ ap (λ m. map.insert m c.as_bytes.result.now c.args.address) c.self.view_is ∙ ap (λ k. map.insert c.args.self.now k c.args.address) c.as_bytes.ensures
