-- The word is that of the parts once they have passed what they owe.
use Rattle.std.proofs.Common.{ℕ, ◌∙◌, ap, slice_index}
use Rattle.mc146818.specs.Clock.{registers}
use Rattle.kn02_bus.specs.State.{BusState}
use Rattle.kn02_bus.specs.Quiet.{after}
use Rattle.kn02_bus.proofs.bus.Bus.load_clock.Goals as goal

pub returns-clause-word : goal.returns-clause-word
returns-clause-word c =
    let now = c.pass.ensures ∙ (ap (λ (n : ℕ). after n c.self.inside.parts) c.owed.ensures ∙ c.self.view_is) in
    c.load_clock-word.ensures.word ∙ ap (λ (s : BusState). slice_index (registers s.clock) c.args.register) now
