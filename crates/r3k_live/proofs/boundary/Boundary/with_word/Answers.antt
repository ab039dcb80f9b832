use Rattle.std.proofs.Common.{List, ℕ, ap, slice_set, ◌∙◌}
use Rattle.std.proofs.Math.Path.{ap₂}
use Rattle.r3k_machine.specs.Core.{Core}
use Rattle.r3k_machine.specs.State.{State}
use Rattle.r3k_live.proofs.boundary.Boundary.with_word.Goals as goal

pub returns : goal.returns
returns g c =
    ap₂ (λ (core : Core) (words : List ℕ). let x : State = record { core = core; words = words } in x)
    (c.in_ok-share.ensures {u = tt} ∙ ap (λ (s : State). s.core) c.self.view_is)
    (c.in_ok-with_word.ensures {u = tt} ∙ ap (λ (s : State). slice_set s.words c.args.place c.args.word) c.self.view_is)
