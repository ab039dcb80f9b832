-- The class ends at the place.
use Rattle.std.proofs.Common.{arith}
use Rattle.asm_line.proofs.Spans.{front, rest}
use Rattle.asm_line.proofs.span.end_of.Goals as goal

pub returns-then-not-contains-clause-front : goal.returns-then-not-contains-clause-front
returns-then-not-contains-clause-front c =
    front c.args.class c.args.text.now c.loop-place.place (record { within = omega arith; before = c.loop-place.invariant; at = λ _. cc })

pub returns-then-not-contains-clause-rest : goal.returns-then-not-contains-clause-rest
returns-then-not-contains-clause-rest c =
    rest c.args.class c.args.text.now c.loop-place.place (record { within = omega arith; before = c.loop-place.invariant; at = λ _. cc })

pub returns-clause-front : goal.returns-clause-front
returns-clause-front c =
    front c.args.class c.args.text.now _ (record { within = omega arith; before = λ k lt. c.loop-place.invariant k (omega arith); at = λ lt. absurd (omega arith) })

pub returns-clause-rest : goal.returns-clause-rest
returns-clause-rest c =
    rest c.args.class c.args.text.now _ (record { within = omega arith; before = λ k lt. c.loop-place.invariant k (omega arith); at = λ lt. absurd (omega arith) })
