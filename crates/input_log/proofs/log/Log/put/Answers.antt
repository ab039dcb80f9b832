use Rattle.std.proofs.Common.{ℕ, ◌≡◌, subst, sym, ap, ◌∙◌, arith, length, Ok}
use Rattle.std.specs.List.{insert}
use Rattle.input_log.specs.declared.event.Kind.{Kind}
use Rattle.input_log.specs.Event.{LogEvent}
use Rattle.input_log.specs.Log.{IsLog}
use Rattle.input_log.specs.Edits.{up_to, with_event, adding}
use Rattle.input_log.proofs.Logs.{IsEvent}
use Rattle.input_log.proofs.Editing.{is_insert, log_with, added}
use Rattle.input_log.proofs.log.Log.put.Goals as goal

-- the event that is put
abbrev put : (time : ℕ) (kind : Kind) (line byte : ℕ) → LogEvent
put time kind line byte = record { time = time; kind = kind; line = line; byte = byte }

is_event : (c : goal.Else-is_err) → IsEvent (put c.args.time c.args.kind c.args.line c.args.byte)
is_event c = record {
  line = omega (arith, c.max_line.ensures, c.if-line-max_line.false);
  byte = omega (arith, c.max_byte.ensures, c.if-byte-max_byte.false);
  time = omega (arith, c.if-time-gt-MAX_TIME.false);
}

-- what the log is then
made : (c : goal.Else-is_err) → c.insert.new.self.items ≡ with_event (put c.args.time c.args.kind c.args.line c.args.byte) c.self.inside.events.items
made c =
    let event : LogEvent = put c.args.time c.args.kind c.args.line c.args.byte in
    let place : c.place_after-place.result ≡ length (up_to c.args.time c.self.inside.events.items) =
    c.place_after-place.ensures.place ∙ ap (λ events. length (up_to c.args.time events)) c.deref.ensures.value in
    rw (c.is_err.ensures.negation, c.if-is_err.false) at c.insert.ensures.items
    ∙ ap (λ n. insert c.self.inside.events.items n event) place
    ∙ sym (is_insert event c.self.inside.events.items c.self.invariant.in_order)

pub invariant_of-self-2 : goal.invariant_of-self-2
invariant_of-self-2 c =
    let event : LogEvent = put c.args.time c.args.kind c.args.line c.args.byte in
    let few = c.if-len-ge-MAX_EVENTS.false in
    subst IsLog (sym (made c)) (log_with event c.self.inside.events.items (is_event c) (omega arith) c.self.invariant)

pub returns-clause-log : goal.returns-clause-log
returns-clause-log c =
    let event : LogEvent = put c.args.time c.args.kind c.args.line c.args.byte in
    ap (adding event) (sym c.self.view_is) ∙ added event c.self.inside.events.items (is_event c) (omega arith) ∙ ap (λ events. Ok events) (sym (made c))
