-- One event more, and then none.
use Rattle.std.proofs.Common.{arith, ap, sym, ◌∙◌, ◌++◌, append-nil}
use Rattle.wb_text.specs.Reply.{event_text}
use Rattle.wb_text.proofs.Shown.{numbered-end, numbered-on}
use Rattle.wb_text.proofs.reply.push_log.Goals as goal

pub loop-event-preserved : goal.loop-event-preserved
loop-event-preserved c = record {
  items =
      rw c.push_event.ensures.items
      (numbered-on event_text c.loop-event.number c.args.events.now c.loop-event.event-index c.loop-event.text.items _ _ (omega arith) c.event-item.is c.loop-event.invariant.items);
  room = omega arith;
}

pub returns : goal.returns
returns c =
    let shown = c.loop-event.text.items in
    let none = numbered-end event_text c.loop-event.number c.args.events.now c.loop-event.event-index (omega arith) in
    sym (append-nil shown) ∙ (ap (λ t. shown ++ t) (sym none) ∙ c.loop-event.invariant.items)
