use Rattle.std.proofs.Common.{ℕ, suc, ◌≡◌, ◌+◌, ap, arith, ◌∙◌}
use Rattle.kn02_bus.specs.Tick.{ticked}
use Rattle.kn02_bus.specs.Quiet.{after}
use Rattle.kn02_bus.proofs.Quiet.{owes_more}
use Rattle.kn02_bus.proofs.bus.Bus.pass.Goals as goal

pub loop-init : goal.loop-init
loop-init c =
    let schedule = c.self.inside.schedule in
    owes_more c.self.inside.parts schedule.planned schedule.left c.min-quiet.result (omega arith) c.self.invariant.within
    ∙ ap (after c.min-quiet.result) c.self.view_is

pub loop-preserved : goal.loop-preserved
unfolding after
loop-preserved c =
    c.tick.ensures ∙ (ap ticked c.loop.invariant ∙ ap (λ (n : ℕ). after n c.args.self.now) (let e : suc c.loop.counter ≡ c.loop.counter + 1 = omega arith in e))
