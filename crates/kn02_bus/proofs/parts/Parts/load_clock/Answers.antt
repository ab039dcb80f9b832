-- The word is what the register reads.
use Rattle.std.proofs.Common.{ℕ, ◌∙◌, slice_index}
use Rattle.std.proofs.Math.Path.{ap₂}
use Rattle.mc146818.specs.Clock.{registers}
use Rattle.kn02_bus.specs.State.{BusState}
use Rattle.kn02_bus.proofs.parts.Parts.load_clock.Goals as goal

pub returns-clause-word : goal.returns-clause-word
returns-clause-word c =
    c.from.ensures ∙ c.read.ensures.value
    ∙ ap₂ (λ (s : BusState) (n : ℕ). slice_index (registers s.clock) n) c.self.view_is c.number.ensures.value
