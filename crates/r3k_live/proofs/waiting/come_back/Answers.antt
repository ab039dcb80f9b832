use Rattle.std.proofs.Common.{arith}
use Rattle.r3k_live.proofs.waiting.come_back.Goals as goal

pub returns-then-stop-from-clause-goes : goal.returns-then-stop-from-clause-goes
returns-then-stop-from-clause-goes g c = λ log from start made now left gone.
    let goes = c.stretch.ensures.goes log from start made now left gone in record {
      gone = goes.gone;
      passed = λ small. absurd (let e : ⊥ = omega (arith, small, c.if-stop-from.true, c.from.ensures) in e);
      code_pages = goes.code_pages;
    }
