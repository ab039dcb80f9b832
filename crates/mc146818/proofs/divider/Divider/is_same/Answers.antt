-- Equal counts of one unit have equal parts.
use Rattle.std.proofs.Common.{sym, ◌∙◌}
use Rattle.std.proofs.lemmas.Bool.{eq-eqb}
use Rattle.mc146818.proofs.Count.{same_parts}
use Rattle.mc146818.proofs.divider.Divider.is_same.Goals as goal
use Rattle.mc146818.proofs.divider.Divider.is_same.Goals.{then-self-other, else-self-other}

pub returns-else-self-other-2 : goal.returns-else-self-other-2
returns-else-self-other-2 c =
    let d = c.self.inside in
    let o = c.other.inside in (
      λ h. absurd cc,
      λ same.
          let parts = same_parts d.units d.ticks d.unit o.units o.ticks o.unit c.self.invariant.1 c.other.invariant.1
          (c.self.view_is ∙ (same ∙ sym c.other.view_is)) in
          elim c.if-self-other.branch [ then-self-other w ↦ w.value-is ∙ eq-eqb _ _ parts.1 | else-self-other w ↦ w.value-is ∙ eq-eqb _ _ parts.0 ],
    )
