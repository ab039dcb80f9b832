use Rattle.std.proofs.Common.{◌≡◌, ℕ, Ok, subst}
use Rattle.present_run.specs.TimelineView.{TimelineView, KeepsState}
use Rattle.timeline.proofs.timeline.Timeline.core_at.Goals as goal

-- the same of a query that may be refused otherwise
keeps_too : {A E F : Type 0} {inside old new : TimelineView} (span position : ℕ) (x : A) → inside ≡ old
    → KeepsState {A = A} {E = E} span position inside new (Ok x) → KeepsState {A = A} {E = F} span position old new (Ok x)
keeps_too {A} {E} {F} {inside} {old} {new} span position x same keeps_state =
    let there = subst (λ (h : TimelineView). KeepsState {A = A} {E = E} span position h new (Ok x)) same keeps_state in
    record { free = there.free; again = there.again; first = there.first; start = there.start; refused = tt }

pub returns-clause-keeps_state : goal.returns-clause-keeps_state
returns-clause-keeps_state g c = keeps_too g.row.SPAN c.args.position c.in_ok-core_at.field-0 c.self.view_is (c.in_ok-core_at.ensures {u = tt}).keeps_state
