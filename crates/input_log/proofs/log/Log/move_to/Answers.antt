use Rattle.std.proofs.Common.{◌≡◌, ◌<◌, subst, sym, ap, ◌∙◌, arith, length, Ok}
use Rattle.std.specs.List.{insert, remove}
use Rattle.input_log.specs.Event.{LogEvent}
use Rattle.input_log.specs.Log.{IsLog}
use Rattle.input_log.specs.Edits.{up_to, with_event, without, at_time, moving}
use Rattle.input_log.proofs.Editing.{put_there, log_relocated, relocated}
use Rattle.input_log.proofs.log.Log.move_to.Goals as goal

-- there is the event
within : (c : goal.After-relocate) → c.in_ok-from.from < length c.self.inside.events.items
within c = let same = ap length c.self.view_is in omega (arith, same, c.in_ok-from.ensures.found.1)

-- what the log is then
made : (c : goal.After-relocate) → c.relocate.new.events.items ≡ with_event (at_time c.args.time c.index-event.result.now) (without c.in_ok-from.from c.self.inside.events.items)
made c =
    let events = c.self.inside.events.items in
    let event = at_time c.args.time c.index-event.result.now in
    c.relocate.ensures
    ∙ ap (λ (e : LogEvent). insert (remove events c.in_ok-from.from) c.place_of_moved-to.result (at_time c.args.time e)) c.event.view_is
    ∙ put_there c.in_ok-from.from events c.place_of_moved-to.result event c.self.invariant (within c)
    (c.place_of_moved-to.ensures.place ∙ ap (λ ys. length (up_to c.args.time (without c.in_ok-from.from ys))) c.deref.ensures.value)

pub invariant_of-self : goal.invariant_of-self
invariant_of-self c =
    subst IsLog (sym (made c)) (log_relocated c.in_ok-from.from c.args.time c.self.inside.events.items c.index-event.result.now c.self.invariant (within c) c.index-event.ensures (omega arith))

pub returns-clause-log : goal.returns-clause-log
returns-clause-log c =
    ap (λ n. moving n c.args.time c.args.self.now) (sym c.in_ok-from.ensures.found.0)
    ∙ ap (moving c.in_ok-from.from c.args.time) (sym c.self.view_is)
    ∙ relocated c.in_ok-from.from c.args.time c.self.inside.events.items c.index-event.result.now (omega arith) (within c) c.index-event.ensures
    ∙ ap (λ events. Ok events) (sym (made c))
