use Rattle.std.proofs.Common.{arith}
use Rattle.input_log.proofs.Logs.{is_log}
use Rattle.input_log.proofs.reading.read_all.Goals as goal

pub invariant_of-result : goal.invariant_of-result
invariant_of-result c =
    is_log c.in_ok-version.version c.args.bytes.now c.in_ok-version.rest.now c.in_ok-count.rest.now c.in_ok-events.rest.now c.in_ok-count.count
    c.in_ok-events.events.items (λ i. omega (arith, c.type_inv.bytes i)) c.in_ok-version.ensures c.in_ok-count.ensures c.in_ok-events.ensures.value
