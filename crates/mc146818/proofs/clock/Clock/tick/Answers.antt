-- A tick that ends no unit moves the divider and changes nothing else.
use Rattle.std.proofs.Common.{◌≡◌, ◌%◌, ◌≤◌, true, subst, sym, ◌∙◌}
use Rattle.mc146818.specs.Divider.{next_count}
use Rattle.mc146818.specs.Clock.{ClockState, runs}
use Rattle.mc146818.specs.contracts.clock.Clock.{the_view}
use Rattle.mc146818.proofs.WithinUnit.{quiet_tick}
use Rattle.mc146818.proofs.clock.Clock.tick.Goals as goal

pub returns-else-advance : goal.returns-else-advance
returns-else-advance c =
    let clock = the_view c.self.inside in
    let going = subst (λ (s : ClockState). runs s ≡ true) (sym c.self.view_is) (sym c.runs.ensures ∙ c.if-runs.true) in
    let not_whole = λ (h : next_count clock.unit clock.divider % clock.unit ≡ 0).
    let whole : c.advance.result ≡ true = c.advance.ensures.whole.1 (rw c.advance.ensures.count h) in
    let no : ⊥ = cc in
    no in
    let above : 1 ≤ clock.unit = rw c.advance.ensures.count at c.advance.ensures.unit in
    rw (← c.self.view_is, c.advance.ensures.count) (quiet_tick clock going above not_whole)
