use Rattle.std.proofs.Common.{ℕ, ap, ◌∙◌, ◌-◌, Option, IfSome, IsTrue, subst, sym, arith}
use Rattle.r3k_decode.specs.Operation.{Operation}
use Rattle.r3k_machine.specs.Flow.{with_flow}
use Rattle.r3k_live.specs.Living.{state_of}
use Rattle.r3k_pages.specs.Pages.{holds}
use Rattle.r3k_live.proofs.Quick.{goes_further, goes_nowhere, goes_straight}
use Rattle.r3k_live.proofs.stretch.quick_steps.Goals as goal

pub loop-index-init : goal.loop-index-init
loop-index-init g c = record {
  goes =
      goes_nowhere g.row.PAGES c.args.most c.args.stop c.args.page (c.args.recorder.now.steps - c.args.begun) (state_of (with_flow c.args.core.now c.args.flow.now) c.args.memory.now)
      c.args.recorder.now (omega (arith, c.requires.begun, c.requires.made)) c.requires.may;
  straight = c.requires.straight;
  least = omega arith;
  opened = c.requires.opened;
}

pub returns-in_default-step_straight-clause-goes : goal.returns-in_default-step_straight-clause-goes
returns-in_default-step_straight-clause-goes g c =
    goes_further g.row.PAGES c.args.most c.args.stop c.args.page (c.args.recorder.now.steps - c.args.begun) (c.loop-index.recorder.steps - c.args.begun) (c.step_straight.new.recorder.steps - c.args.begun)
    (state_of (with_flow c.args.core.now c.args.flow.now) c.args.memory.now) (state_of (with_flow c.loop-index.core c.loop-index.flow) c.loop-index.memory)
    (state_of (with_flow c.step_straight.new.core c.step_straight.new.flow) c.step_straight.new.memory)
    c.args.recorder.now c.loop-index.recorder c.step_straight.new.recorder
    c.loop-index.invariant.goes (c.step_straight.ensures.goes c.args.stop c.halt_in-halt.ensures.word)

pub step_quickly-requires : goal.step_quickly-requires
step_quickly-requires g c =
    let so_far = goes_further g.row.PAGES c.args.most c.args.stop c.args.page (c.args.recorder.now.steps - c.args.begun) (c.loop-index.recorder.steps - c.args.begun) (c.step_straight.new.recorder.steps - c.args.begun)
    (state_of (with_flow c.args.core.now c.args.flow.now) c.args.memory.now) (state_of (with_flow c.loop-index.core c.loop-index.flow) c.loop-index.memory)
    (state_of (with_flow c.step_straight.new.core c.step_straight.new.flow) c.step_straight.new.memory)
    c.args.recorder.now c.loop-index.recorder c.step_straight.new.recorder
    c.loop-index.invariant.goes (c.step_straight.ensures.goes c.args.stop c.halt_in-halt.ensures.word) in
    (omega arith, (so_far.may.code, (c.requires.page, (c.step_straight.ensures.opened, (c.in-Some-step_straight.ensures.within, (c.in-Some-step_straight.ensures.here, c.mnemonic-name.ensures ∙ ap (λ (o : Operation). o.row) c.insn.ensures.known))))))

pub returns-in_default-step_quickly-clause-goes : goal.returns-in_default-step_quickly-clause-goes
returns-in_default-step_quickly-clause-goes g c =
    let none = c.in_default-step_quickly.is in
    rw (c.step_quickly.ensures.core none, c.step_quickly.ensures.flow none, c.step_quickly.ensures.words none)
    (goes_further g.row.PAGES c.args.most c.args.stop c.args.page (c.args.recorder.now.steps - c.args.begun) (c.loop-index.recorder.steps - c.args.begun) (c.step_straight.new.recorder.steps - c.args.begun)
    (state_of (with_flow c.args.core.now c.args.flow.now) c.args.memory.now) (state_of (with_flow c.loop-index.core c.loop-index.flow) c.loop-index.memory)
    (state_of (with_flow c.step_straight.new.core c.step_straight.new.flow) c.step_straight.new.memory)
    c.args.recorder.now c.loop-index.recorder c.step_straight.new.recorder
    c.loop-index.invariant.goes (c.step_straight.ensures.goes c.args.stop c.halt_in-halt.ensures.word))

pub note_apart-requires : goal.note_apart-requires
note_apart-requires g c =
    let so_far = goes_further g.row.PAGES c.args.most c.args.stop c.args.page (c.args.recorder.now.steps - c.args.begun) (c.loop-index.recorder.steps - c.args.begun) (c.step_straight.new.recorder.steps - c.args.begun)
    (state_of (with_flow c.args.core.now c.args.flow.now) c.args.memory.now) (state_of (with_flow c.loop-index.core c.loop-index.flow) c.loop-index.memory)
    (state_of (with_flow c.step_straight.new.core c.step_straight.new.flow) c.step_straight.new.memory)
    c.args.recorder.now c.loop-index.recorder c.step_straight.new.recorder
    c.loop-index.invariant.goes (c.step_straight.ensures.goes c.args.stop c.halt_in-halt.ensures.word) in
    let step = c.in-Some-step_quickly.ensures in (
      omega arith,
      (
        omega (arith, c.requires.room, c.in-Some-step_straight.ensures.room),
        (
          step.reports.stored,
          (
            step.reports.touched,
            (
              step.pages,
              subst (λ (page : Option ℕ). IfSome page (λ page. IsTrue (holds c.step_straight.new.recorder.touched page))) (sym step.fetched) so_far.may.again,
            ),
          ),
        ),
      ),
    )

pub returns-then-note_apart-clause-goes : goal.returns-then-note_apart-clause-goes
returns-then-note_apart-clause-goes g c =
    let so_far = goes_further g.row.PAGES c.args.most c.args.stop c.args.page (c.args.recorder.now.steps - c.args.begun) (c.loop-index.recorder.steps - c.args.begun) (c.step_straight.new.recorder.steps - c.args.begun)
    (state_of (with_flow c.args.core.now c.args.flow.now) c.args.memory.now) (state_of (with_flow c.loop-index.core c.loop-index.flow) c.loop-index.memory)
    (state_of (with_flow c.step_straight.new.core c.step_straight.new.flow) c.step_straight.new.memory)
    c.args.recorder.now c.loop-index.recorder c.step_straight.new.recorder
    c.loop-index.invariant.goes (c.step_straight.ensures.goes c.args.stop c.halt_in-halt.ensures.word) in
    goes_straight g.row.PAGES c.args.most c.args.stop c.args.page c.args.begun (state_of (with_flow c.args.core.now c.args.flow.now) c.args.memory.now)
    (state_of (with_flow c.step_straight.new.core c.step_straight.new.flow) c.step_straight.new.memory) (state_of (with_flow c.step_quickly.new.core c.step_quickly.new.flow) c.step_quickly.new.memory)
    c.args.recorder.now c.step_straight.new.recorder c.note_apart.new.recorder
    (omega (arith, c.requires.begun, c.loop-index.invariant.least, c.step_straight.ensures.least)) c.in-Some-step_straight.ensures.room c.note_apart.ensures.noted.steps
    (c.in-Some-step_straight.ensures.elsewhere c.in-Some-step_quickly.ensures.inside c.args.stop c.halt_in-halt.ensures.word) so_far
    (λ n less elsewhere may. c.in-Some-step_quickly.ensures.goes c.args.most c.args.stop n c.step_straight.new.recorder c.note_apart.new.recorder less elsewhere may c.note_apart.ensures.noted)

pub loop-index-preserved : goal.loop-index-preserved
loop-index-preserved g c =
    let so_far = goes_further g.row.PAGES c.args.most c.args.stop c.args.page (c.args.recorder.now.steps - c.args.begun) (c.loop-index.recorder.steps - c.args.begun) (c.step_straight.new.recorder.steps - c.args.begun)
    (state_of (with_flow c.args.core.now c.args.flow.now) c.args.memory.now) (state_of (with_flow c.loop-index.core c.loop-index.flow) c.loop-index.memory)
    (state_of (with_flow c.step_straight.new.core c.step_straight.new.flow) c.step_straight.new.memory)
    c.args.recorder.now c.loop-index.recorder c.step_straight.new.recorder
    c.loop-index.invariant.goes (c.step_straight.ensures.goes c.args.stop c.halt_in-halt.ensures.word) in
    let free = sym (c.note_apart.ensures.delay c.step_quickly.new.flow c.in-Some-step_quickly.ensures.next) ∙ c.if-note_apart.false in record {
      goes =
          goes_straight g.row.PAGES c.args.most c.args.stop c.args.page c.args.begun (state_of (with_flow c.args.core.now c.args.flow.now) c.args.memory.now)
          (state_of (with_flow c.step_straight.new.core c.step_straight.new.flow) c.step_straight.new.memory) (state_of (with_flow c.step_quickly.new.core c.step_quickly.new.flow) c.step_quickly.new.memory)
          c.args.recorder.now c.step_straight.new.recorder c.note_apart.new.recorder
          (omega (arith, c.requires.begun, c.loop-index.invariant.least, c.step_straight.ensures.least)) c.in-Some-step_straight.ensures.room c.note_apart.ensures.noted.steps
          (c.in-Some-step_straight.ensures.elsewhere c.in-Some-step_quickly.ensures.inside c.args.stop c.halt_in-halt.ensures.word) so_far
          (λ n less elsewhere may. c.in-Some-step_quickly.ensures.goes c.args.most c.args.stop n c.step_straight.new.recorder c.note_apart.new.recorder less elsewhere may c.note_apart.ensures.noted);
      straight = record { free = free; next = c.in-Some-step_quickly.ensures.leads.next free };
      least = omega (arith, c.loop-index.invariant.least, c.step_straight.ensures.least, c.note_apart.ensures.noted.steps);
      opened = c.step_quickly.ensures.opened;
    }
