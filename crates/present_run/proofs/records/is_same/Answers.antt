use Rattle.std.proofs.Common.{◌≡◌, ℕ, List, sym, ap, ◌∙◌}
use Rattle.std.proofs.Math.Path.{ap₂}
use Rattle.std.proofs.lemmas.Bool.{true≢false}
use Rattle.r3k_machine.specs.Core.{Core}
use Rattle.r3k_machine.specs.State.{State}
use Rattle.r3k_machine.specs.Same.{is_same_decides}
use Rattle.present_run.proofs.records.is_same.Goals as goal

pub returns-then-eq : goal.returns-then-eq
returns-then-eq g c =
    let decides = is_same_decides c.core.result.now c.core-2.result.now in
    let core : c.args.a.now.core ≡ c.args.b.now.core = sym c.core.ensures ∙ (decides.0 (sym c.eq.ensures ∙ c.if-eq.true) ∙ c.core-2.ensures) in (
      λ same. ap₂ {C = State} (λ (core : Core) (words : List ℕ). record { core = core; words = words }) core
          (sym c.memory.ensures.words ∙ (c.equals.ensures.0 same ∙ c.memory-then-eq.ensures.words)),
      λ is. c.equals.ensures.1 (c.memory.ensures.words ∙ (ap (λ (s : State). s.words) is ∙ sym c.memory-then-eq.ensures.words)),
    )

pub returns-else-eq : goal.returns-else-eq
returns-else-eq g c =
    let decides = is_same_decides c.core.result.now c.core-2.result.now in (
      λ same. absurd (true≢false (sym same ∙ c.if-eq.false)),
      λ is. c.eq.ensures ∙ decides.1 (c.core.ensures ∙ (ap (λ (s : State). s.core) is ∙ sym c.core-2.ensures)),
    )
