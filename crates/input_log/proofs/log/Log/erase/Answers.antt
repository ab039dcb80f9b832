use Rattle.std.proofs.Common.{◌≡◌, ℕ, List, subst, sym, ap, ◌∙◌, arith, length, Ok}
use Rattle.std.specs.List.{remove_range}
use Rattle.input_log.specs.Event.{LogEvent}
use Rattle.input_log.specs.Log.{IsLog, earlier_than}
use Rattle.input_log.specs.Edits.{without_times, erasing}
use Rattle.input_log.proofs.Erased.{places_in_order, left_is, erased, log_without_times}
use Rattle.input_log.proofs.log.Log.erase.Goals as goal
use Rattle.input_log.proofs.log.Log.erase.Goals.{After-close_gap}

-- where the events of a time begin
begins : (time place : ℕ) (all events : List LogEvent) → place ≡ length (earlier_than time all) → all ≡ events → place ≡ length (earlier_than time events)
begins time place all events at same = at ∙ ap (λ es. length (earlier_than time es)) same

pub close_gap-requires-clause-in_order : goal.close_gap-requires-clause-in_order
close_gap-requires-clause-in_order c =
    let events = c.self.inside.events.items in
    let first = begins c.args.from c.place_at-start.result c.deref.result.now events c.place_at-start.ensures.place c.deref.ensures.value in
    let last = begins c.args.to c.place_at-end.result c.deref-2.result.now events c.place_at-end.ensures.place c.deref-2.ensures.value in
    omega (arith, first, last, places_in_order c.args.from c.args.to events c.if-from-to.false)

-- what the log is then
made : (c : After-close_gap) → c.close_gap.new.events.items ≡ without_times c.args.from c.args.to c.self.inside.events.items
made c =
    let events = c.self.inside.events.items in
    let first = begins c.args.from c.place_at-start.result c.deref.result.now events c.place_at-start.ensures.place c.deref.ensures.value in
    let last = begins c.args.to c.place_at-end.result c.deref-2.result.now events c.place_at-end.ensures.place c.deref-2.ensures.value in
    c.close_gap.ensures
    ∙ (λ i. remove_range events (first i) (last i))
    ∙ sym (left_is c.args.from c.args.to events c.self.invariant.in_order c.if-from-to.false)

pub invariant_of-self : goal.invariant_of-self
invariant_of-self c = subst IsLog (sym (made c)) (log_without_times c.args.from c.args.to c.self.inside.events.items c.self.invariant)

pub returns : goal.returns
returns c =
    ap (erasing c.args.from c.args.to) (sym c.self.view_is)
    ∙ erased c.args.from c.args.to c.self.inside.events.items c.if-from-to.false c.if-to-gt-MAX_POSITION.false
    ∙ ap (λ events. Ok events) (sym (made c))
