use Rattle.std.proofs.Common.{◌≡◌, ◌*◌, ◌≤◌, subst, sym, ap, ◌∙◌, arith}
use Rattle.std.proofs.lemmas.Nat.{mul-le}
use Rattle.input_log.specs.declared.event.Kind.TheVariants.{Byte}
use Rattle.input_log.specs.Event.{LogEvent}
use Rattle.input_log.specs.Spelling.{Fits, version_for}
use Rattle.input_log.proofs.Logs.{fits, short}
use Rattle.input_log.proofs.writing.write_log.Goals as goal

-- the bytes of all events
fit : (c : goal.After-len) → c.event_bytes.result * c.len.result ≤ 11 * 1048576
fit c =
    let event : LogEvent = record { time = 0; kind = Byte; line = 0; byte = 0 } in
    mul-le c.event_bytes.result c.len.result 11 1048576
    (omega (arith, c.event_bytes.ensures event, short c.version_for-version.result event)) (omega (arith, c.len.ensures, c.log.invariant.few))

pub overflow_mul-size : goal.overflow_mul-size
overflow_mul-size c = omega (arith, fit c)

pub overflow_add-size : goal.overflow_add-size
overflow_add-size c = omega (arith, fit c)

pub push_events-requires : goal.push_events-requires
push_events-requires c =
    let version : c.version_for-version.result ≡ version_for c.deref-2.result.now =
    c.version_for-version.ensures ∙ ap version_for (c.deref.ensures.value ∙ sym c.deref-2.ensures.value) in
    subst (λ v. Fits v c.deref-2.result.now) (sym version) (fits c.deref-2.result.now)
