use Rattle.std.proofs.Common.{ap, ◌∙◌}
use Rattle.std.specs.FinMap as map
use Rattle.r3k_asm.proofs.LabelMap.{got}
use Rattle.r3k_asm.proofs.labels.Labels.get.Goals as goal

pub returns : goal.returns
returns c =
    c.copied.ensures ∙ c.get.ensures.value ∙ got c.as_bytes.result c.self.inside.labels.entries c.self.invariant
    ∙ ap (λ m. map.get m c.as_bytes.result.now) c.self.view_is ∙ ap (map.get c.args.self.now) c.as_bytes.ensures
