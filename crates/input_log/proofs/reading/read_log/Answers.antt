use Rattle.std.proofs.Common.{List, subst, arith}
use Rattle.input_log.specs.Event.{LogEvent}
use Rattle.input_log.specs.Reading.{ReadsOrLacks}
use Rattle.input_log.proofs.Logs.{is_found, only}
use Rattle.input_log.proofs.reading.read_log.Goals as goal

pub returns-clause-found : goal.returns-clause-found
returns-clause-found c = is_found c.args.bytes.now c.read_all.result (λ i. omega (arith, c.type_inv.bytes i)) c.read_all.ensures.exact

pub returns-clause-only : goal.returns-clause-only
returns-clause-only c = λ log good spelled.
    subst (ReadsOrLacks (λ (x : List LogEvent). x) c.read_all.result) (only c.args.bytes.now log good spelled) c.read_all.ensures.exact
