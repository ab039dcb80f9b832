-- One more line, up to the end or a fault.
use Rattle.std.proofs.Common.{Result, Err, IfOk, ◌≡◌, ◌+◌, arith, sym, ap, subst, ◌∙◌}
use Rattle.std.proofs.lemmas.Bool.{eqb-true}
use Rattle.std.proofs.lemmas.Result.{err_from_is_err_and}
use Rattle.std.specs.Str.Lines.{lines}
use Rattle.r3k_asm.specs.declared.fault.AsmFault.{AsmFault}
use Rattle.r3k_asm.specs.Source.{seen, started}
use Rattle.r3k_asm.specs.declared.fault.AsmFault.TheVariants.{Memory}
use Rattle.r3k_asm.specs.Meaning.{passed, Answers, HasNoFaultBefore}
use Rattle.r3k_asm.proofs.Links.{asks_at_end, asks_first, asks_later, line_more, line_fails, line_none, fails_same}
use Rattle.r3k_asm.proofs.passes.first_pass.Goals as goal

pub returns-in_err-read : goal.returns-in_err-read
returns-in_err-read c =
    let p = err_from_is_err_and c.from_residual.result c.from_residual.ensures.1 in
    let fault = c.in_err-read.field-0.0 in
    let is : c.from_residual.result ≡ Err fault = p.1 ∙ ap (λ (f : AsmFault). Err f) p.2 in
    let line = c.loop-rest.line + 1 in
    let now = seen c.loop-rest.source in
    let front = c.first_line.result.0.now in
    let all = line_fails line now c.loop-rest.rest.now front c.first_line.result.1.now fault c.first_line.ensures.lines c.in_err-read.ensures.read in record {
      lines = subst (λ r. Answers seen r (passed 1 started (lines c.args.text.now))) (sym is) (fails_same fault _ _ c.loop-rest.invariant.rest all);
      memory = λ lacks.
          let e : fault ≡ Memory = cc in
          c.loop-rest.invariant.asks (asks_first line now c.loop-rest.rest.now front c.first_line.result.1.now c.first_line.ensures.lines
          (c.in_err-read.ensures.memory (ap (λ (f : AsmFault). let r : Result (Unit {0}) AsmFault = Err f in r) e)));
      whole = subst (λ (r : Result _ AsmFault). IfOk r (λ _. HasNoFaultBefore 1 started (lines c.args.text.now))) (sym is) tt;
    }

pub loop-rest-preserved : goal.loop-rest-preserved
loop-rest-preserved c =
    let line = c.loop-rest.line + 1 in
    let now = seen c.loop-rest.source in
    let next = seen c.read.new.self in
    let rest = c.loop-rest.rest.now in
    let front = c.first_line.result.0.now in
    let after = c.first_line.result.1.now in record {
      rest = line_more line now next rest front after c.first_line.ensures.lines c.in_ok-read.ensures.read ∙ c.loop-rest.invariant.rest;
      asks = λ later. c.loop-rest.invariant.asks (asks_later line now next rest front after c.first_line.ensures.lines c.in_ok-read.ensures.read later);
      count = omega (arith, c.first_line.ensures.shorter, c.loop-rest.invariant.count);
    }

pub returns : goal.returns
returns c =
    let none = eqb-true _ _ (sym c.loop-rest-test.ensures) in
    let all = c.loop-rest.invariant.asks (asks_at_end (c.loop-rest.line + 1) (seen c.loop-rest.source) c.loop-rest.rest.now none) in record {
      lines = sym c.loop-rest.invariant.rest ∙ line_none (c.loop-rest.line + 1) (seen c.loop-rest.source) c.loop-rest.rest.now none;
      memory = λ _. all;
      whole = all;
    }
