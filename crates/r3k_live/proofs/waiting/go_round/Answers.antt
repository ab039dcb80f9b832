use Rattle.std.proofs.Common.{◌≡◌, ℕ, ◌+◌, subst, ◌∙◌, arith}
use Rattle.r3k_live.specs.Living.{state_of}
use Rattle.r3k_live.proofs.Gone.{GoesFor, goes_for_more, goes_for_none}
use Rattle.r3k_live.proofs.waiting.go_round.Goals as goal

pub loop-steps-init : goal.loop-steps-init
loop-steps-init g c = record {
  bound = omega arith;
  count = omega arith;
  returns = omega arith;
  elsewhere = c.requires.elsewhere;
  goes = goes_for_none g.row.PAGES c.args.time c.args.events.now c.args.stop (state_of c.args.core.now c.args.memory.now) c.args.recorder.now;
}

pub returns-then-eq-clause-goes : goal.returns-then-eq-clause-goes
returns-then-eq-clause-goes g c =
    goes_for_more g.row.PAGES c.args.time c.args.events.now c.args.stop c.loop-steps.steps c.come_back-more.result (state_of c.args.core.now c.args.memory.now)
    (state_of c.loop-steps.core c.loop-steps.memory) (state_of c.come_back-more.new.core c.come_back-more.new.memory) c.args.recorder.now c.loop-steps.recorder c.come_back-more.new.recorder
    c.loop-steps.invariant.goes c.come_back-more.ensures.goes c.loop-steps.invariant.elsewhere

pub overflow_add-returns : goal.overflow_add-returns
overflow_add-returns g c = omega (arith, c.loop-steps.invariant.returns)

pub loop-steps-preserved-else-returns-eq-RETURNS : goal.loop-steps-preserved-else-returns-eq-RETURNS
loop-steps-preserved-else-returns-eq-RETURNS g c = record {
  bound = omega (arith, c.loop-steps-test.true, c.min-longest.ensures, c.come_back-more.ensures.bound);
  count = omega (arith, c.come_back-more.ensures.steps, c.loop-steps.invariant.count);
  returns = omega (arith, c.loop-steps.invariant.returns, c.if-returns-eq-RETURNS.false);
  elsewhere = λ here. c.if-pc-stop.false (c.pc.ensures ∙ here);
  goes =
      goes_for_more g.row.PAGES c.args.time c.args.events.now c.args.stop c.loop-steps.steps c.come_back-more.result (state_of c.args.core.now c.args.memory.now)
      (state_of c.loop-steps.core c.loop-steps.memory) (state_of c.come_back-more.new.core c.come_back-more.new.memory) c.args.recorder.now c.loop-steps.recorder c.come_back-more.new.recorder
      c.loop-steps.invariant.goes c.come_back-more.ensures.goes c.loop-steps.invariant.elsewhere;
}

pub loop-steps-preserved : goal.loop-steps-preserved
loop-steps-preserved g c = record {
  bound = omega (arith, c.loop-steps-test.true, c.min-longest.ensures, c.come_back-more.ensures.bound);
  count = omega (arith, c.come_back-more.ensures.steps, c.loop-steps.invariant.count);
  returns = c.loop-steps.invariant.returns;
  elsewhere = λ here. c.if-pc-stop.false (c.pc.ensures ∙ here);
  goes =
      goes_for_more g.row.PAGES c.args.time c.args.events.now c.args.stop c.loop-steps.steps c.come_back-more.result (state_of c.args.core.now c.args.memory.now)
      (state_of c.loop-steps.core c.loop-steps.memory) (state_of c.come_back-more.new.core c.come_back-more.new.memory) c.args.recorder.now c.loop-steps.recorder c.come_back-more.new.recorder
      c.loop-steps.invariant.goes c.come_back-more.ensures.goes c.loop-steps.invariant.elsewhere;
}

pub returns-then-more-eq0-clause-goes : goal.returns-then-more-eq0-clause-goes
returns-then-more-eq0-clause-goes g c =
    subst (λ (n : ℕ). GoesFor g.row.PAGES c.args.time c.args.events.now c.args.stop n (state_of c.args.core.now c.args.memory.now) (state_of c.come_back-more.new.core c.come_back-more.new.memory) c.args.recorder.now c.come_back-more.new.recorder)
    (let e : c.loop-steps.steps + c.come_back-more.result ≡ c.loop-steps.steps = omega (arith, c.if-more-eq0.true) in e)
    (goes_for_more g.row.PAGES c.args.time c.args.events.now c.args.stop c.loop-steps.steps c.come_back-more.result (state_of c.args.core.now c.args.memory.now)
    (state_of c.loop-steps.core c.loop-steps.memory) (state_of c.come_back-more.new.core c.come_back-more.new.memory) c.args.recorder.now c.loop-steps.recorder c.come_back-more.new.recorder
    c.loop-steps.invariant.goes c.come_back-more.ensures.goes c.loop-steps.invariant.elsewhere)

pub returns-then-pc-stop-clause-goes : goal.returns-then-pc-stop-clause-goes
returns-then-pc-stop-clause-goes g c =
    goes_for_more g.row.PAGES c.args.time c.args.events.now c.args.stop c.loop-steps.steps c.come_back-more.result (state_of c.args.core.now c.args.memory.now)
    (state_of c.loop-steps.core c.loop-steps.memory) (state_of c.come_back-more.new.core c.come_back-more.new.memory) c.args.recorder.now c.loop-steps.recorder c.come_back-more.new.recorder
    c.loop-steps.invariant.goes c.come_back-more.ensures.goes c.loop-steps.invariant.elsewhere

pub returns-then-returns-eq-RETURNS-clause-goes : goal.returns-then-returns-eq-RETURNS-clause-goes
returns-then-returns-eq-RETURNS-clause-goes g c =
    goes_for_more g.row.PAGES c.args.time c.args.events.now c.args.stop c.loop-steps.steps c.come_back-more.result (state_of c.args.core.now c.args.memory.now)
    (state_of c.loop-steps.core c.loop-steps.memory) (state_of c.come_back-more.new.core c.come_back-more.new.memory) c.args.recorder.now c.loop-steps.recorder c.come_back-more.new.recorder
    c.loop-steps.invariant.goes c.come_back-more.ensures.goes c.loop-steps.invariant.elsewhere
