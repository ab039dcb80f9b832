use Rattle.std.proofs.Common.{◌≡◌, ℕ, ◌+◌, ◌-◌, ◌/◌, ◌||◌, IsTrue, nat_eq, refl, sym, ap, subst, ◌∙◌, arith, inr}
use Rattle.r3k_word.specs.declared.layout.TheConstants.{PAGE_BYTES}
use Rattle.r3k_machine.specs.Flow.{with_flow}
use Rattle.r3k_pages.specs.Pages.{holds}
use Rattle.r3k_live.specs.Going.{GoesOver}
use Rattle.r3k_live.specs.Living.{state_of}
use Rattle.r3k_machine.specs.State.{State}
use Rattle.r3k_live.proofs.CodePages.{with_one, with_same}
use Rattle.r3k_live.proofs.Leads.{leads_nowhere}
use Rattle.r3k_live.proofs.Quick.{less_after_change, less_after_steps, over_more, over_none, over_step}
use Rattle.r3k_live.proofs.stretch.steps_over_pages.Goals as goal

pub loop-next-init : goal.loop-next-init
loop-next-init g c = record {
  goes =
      subst (λ (n : ℕ). GoesOver g.row.PAGES c.args.most c.args.stop n (state_of (with_flow c.args.core.now c.args.flow.now) c.args.memory.now)
      (state_of (with_flow c.args.core.now c.args.flow.now) c.args.memory.now) c.args.recorder.now c.args.recorder.now)
      (let e : 0 ≡ c.args.recorder.now.steps - c.steps-begun.result = omega (arith, c.steps-begun.ensures.steps) in e)
      (over_none g.row.PAGES c.args.most c.args.stop c.args.page.now (state_of (with_flow c.args.core.now c.args.flow.now) c.args.memory.now) c.args.recorder.now
      c.quiet_laws.ensures.none c.requires.may);
  may = c.requires.may;
  straight = c.is_straight.ensures.0 c.if-not-is_straight.false;
  page = c.requires.page;
  opened = c.requires.opened;
  least = omega (arith, c.steps-begun.ensures.steps);
}

pub returns-then-not-is_straight-clause-goes : goal.returns-then-not-is_straight-clause-goes
returns-then-not-is_straight-clause-goes g c =
    over_none g.row.PAGES c.args.most c.args.stop c.args.page.now (state_of (with_flow c.args.core.now c.args.flow.now) c.args.memory.now) c.args.recorder.now
    c.quiet_laws.ensures.none c.requires.may

pub returns-then-not-straight-clause-goes : goal.returns-then-not-straight-clause-goes
returns-then-not-straight-clause-goes g c =
    rw c.ready_page.ensures.words
    (subst (λ (n : ℕ). GoesOver g.row.PAGES c.args.most c.args.stop n (state_of (with_flow c.args.core.now c.args.flow.now) c.args.memory.now)
    (state_of (with_flow c.quick_steps-straight.new.core c.quick_steps-straight.new.flow) c.quick_steps-straight.new.memory) c.args.recorder.now c.note_code_page.new.self)
    (let e : c.quick_steps-straight.new.recorder.steps - c.steps-begun.result ≡ c.steps-steps.result - c.steps-begun.result = omega (arith, c.steps-steps.ensures.steps, c.note_code_page.ensures.steps) in e)
    (over_more g.row.PAGES c.args.most c.args.stop c.loop-next.page (c.loop-next.recorder.steps - c.steps-begun.result) (c.quick_steps-straight.new.recorder.steps - c.steps-begun.result)
    (state_of (with_flow c.args.core.now c.args.flow.now) c.args.memory.now) (state_of (with_flow c.loop-next.core c.loop-next.flow) c.loop-next.memory)
    (state_of (with_flow c.quick_steps-straight.new.core c.quick_steps-straight.new.flow) c.quick_steps-straight.new.memory)
    c.args.recorder.now c.loop-next.recorder c.quick_steps-straight.new.recorder c.note_code_page.new.self (omega (arith, c.quick_steps-straight.ensures.least))
    c.loop-next.invariant.goes c.quick_steps-straight.ensures.goes c.note_code_page.ensures.records
    (λ other. c.note_code_page.ensures.code_pages other ∙ ap (λ (pc : ℕ). holds c.quick_steps-straight.new.recorder.code_pages other || nat_eq (pc / PAGE_BYTES) other) c.pc-here.ensures)
    c.note_code_page.ensures.steps))

pub returns-in_default-page_to_go_on-clause-goes : goal.returns-in_default-page_to_go_on-clause-goes
returns-in_default-page_to_go_on-clause-goes g c =
    rw (c.page_to_go_on.ensures.words, c.page_to_go_on.ensures.core, c.ready_page.ensures.words)
    (subst (λ (n : ℕ). GoesOver g.row.PAGES c.args.most c.args.stop n (state_of (with_flow c.args.core.now c.args.flow.now) c.args.memory.now)
    (state_of (with_flow c.quick_steps-straight.new.core c.quick_steps-straight.new.flow) c.quick_steps-straight.new.memory) c.args.recorder.now c.note_code_page.new.self)
    (let e : c.quick_steps-straight.new.recorder.steps - c.steps-begun.result ≡ c.steps-steps.result - c.steps-begun.result = omega (arith, c.steps-steps.ensures.steps, c.note_code_page.ensures.steps) in e)
    (over_more g.row.PAGES c.args.most c.args.stop c.loop-next.page (c.loop-next.recorder.steps - c.steps-begun.result) (c.quick_steps-straight.new.recorder.steps - c.steps-begun.result)
    (state_of (with_flow c.args.core.now c.args.flow.now) c.args.memory.now) (state_of (with_flow c.loop-next.core c.loop-next.flow) c.loop-next.memory)
    (state_of (with_flow c.quick_steps-straight.new.core c.quick_steps-straight.new.flow) c.quick_steps-straight.new.memory)
    c.args.recorder.now c.loop-next.recorder c.quick_steps-straight.new.recorder c.note_code_page.new.self (omega (arith, c.quick_steps-straight.ensures.least))
    c.loop-next.invariant.goes c.quick_steps-straight.ensures.goes c.note_code_page.ensures.records
    (λ other. c.note_code_page.ensures.code_pages other ∙ ap (λ (pc : ℕ). holds c.quick_steps-straight.new.recorder.code_pages other || nat_eq (pc / PAGE_BYTES) other) c.pc-here.ensures)
    c.note_code_page.ensures.steps))

pub returns-then-not-goes_on-clause-goes : goal.returns-then-not-goes_on-clause-goes
returns-then-not-goes_on-clause-goes g c =
    rw (c.page_to_go_on.ensures.words, c.page_to_go_on.ensures.core, c.ready_page.ensures.words)
    (subst (λ (n : ℕ). GoesOver g.row.PAGES c.args.most c.args.stop n (state_of (with_flow c.args.core.now c.args.flow.now) c.args.memory.now)
    (state_of (with_flow c.quick_steps-straight.new.core c.quick_steps-straight.new.flow) c.quick_steps-straight.new.memory) c.args.recorder.now c.note_code_page.new.self)
    (let e : c.quick_steps-straight.new.recorder.steps - c.steps-begun.result ≡ c.steps-steps.result - c.steps-begun.result = omega (arith, c.steps-steps.ensures.steps, c.note_code_page.ensures.steps) in e)
    (over_more g.row.PAGES c.args.most c.args.stop c.loop-next.page (c.loop-next.recorder.steps - c.steps-begun.result) (c.quick_steps-straight.new.recorder.steps - c.steps-begun.result)
    (state_of (with_flow c.args.core.now c.args.flow.now) c.args.memory.now) (state_of (with_flow c.loop-next.core c.loop-next.flow) c.loop-next.memory)
    (state_of (with_flow c.quick_steps-straight.new.core c.quick_steps-straight.new.flow) c.quick_steps-straight.new.memory)
    c.args.recorder.now c.loop-next.recorder c.quick_steps-straight.new.recorder c.note_code_page.new.self (omega (arith, c.quick_steps-straight.ensures.least))
    c.loop-next.invariant.goes c.quick_steps-straight.ensures.goes c.note_code_page.ensures.records
    (λ other. c.note_code_page.ensures.code_pages other ∙ ap (λ (pc : ℕ). holds c.quick_steps-straight.new.recorder.code_pages other || nat_eq (pc / PAGE_BYTES) other) c.pc-here.ensures)
    c.note_code_page.ensures.steps))

pub loop-next-preserved-in-Some : goal.loop-next-preserved-in-Some
loop-next-preserved-in-Some g c = record {
  goes =
      rw c.ready_page.ensures.words
      (over_more g.row.PAGES c.args.most c.args.stop c.loop-next.page (c.loop-next.recorder.steps - c.steps-begun.result) (c.quick_steps-straight.new.recorder.steps - c.steps-begun.result)
      (state_of (with_flow c.args.core.now c.args.flow.now) c.args.memory.now) (state_of (with_flow c.loop-next.core c.loop-next.flow) c.loop-next.memory)
      (state_of (with_flow c.quick_steps-straight.new.core c.quick_steps-straight.new.flow) c.quick_steps-straight.new.memory)
      c.args.recorder.now c.loop-next.recorder c.quick_steps-straight.new.recorder c.quick_steps-straight.new.recorder (omega (arith, c.quick_steps-straight.ensures.least))
      c.loop-next.invariant.goes c.quick_steps-straight.ensures.goes (λ steps so_far. so_far)
      (with_same c.quick_steps-straight.new.recorder.code_pages (c.quick_steps-straight.new.flow.pc / PAGE_BYTES)
      (subst (λ (pc : ℕ). IsTrue (holds c.quick_steps-straight.new.recorder.code_pages (pc / PAGE_BYTES))) c.pc-here.ensures c.in-Some.ensures.ready.stood))
      refl);
  may = record {
    quiet = c.quick_steps-straight.ensures.goes.may.quiet;
    code = c.in-Some.ensures.code (with_flow c.quick_steps-straight.new.core c.quick_steps-straight.new.flow) c.quick_steps-straight.ensures.goes.may.code;
    again = c.in-Some.ensures.ready.touched;
  };
  straight = c.quick_steps-straight.ensures.straight c.in-Some.ensures.straight;
  page = c.in-Some.ensures.ready.within;
  opened = c.in-Some.ensures.opened;
  least = omega (arith, c.loop-next.invariant.least, c.quick_steps-straight.ensures.least);
}

pub loop-next-smaller-in-Some : goal.loop-next-smaller-in-Some
loop-next-smaller-in-Some g c =
    less_after_change (c.steps-begun.result + c.args.most) c.loop-next.recorder.steps c.quick_steps-straight.new.recorder.steps c.loop-next.flow.pc c.loop-next.page.number
    c.quick_steps-straight.new.flow.pc c.in-Some.next.number c.quick_steps-straight.ensures.least
    (omega (arith, c.quick_steps-straight.ensures.goes.bound, c.quick_steps-straight.ensures.least, c.loop-next.invariant.least))
    (λ none. ap (λ (s : State). s.core.pc) (leads_nowhere g.row.PAGES (c.quick_steps-straight.new.recorder.steps - c.steps-begun.result - (c.loop-next.recorder.steps - c.steps-begun.result))
    (state_of (with_flow c.loop-next.core c.loop-next.flow) c.loop-next.memory)
    (state_of (with_flow c.quick_steps-straight.new.core c.quick_steps-straight.new.flow) c.quick_steps-straight.new.memory)
    c.loop-next.recorder c.quick_steps-straight.new.recorder (omega (arith, none)) c.quick_steps-straight.ensures.goes.leads))
    (subst (λ (pc : ℕ). ¬ (pc / PAGE_BYTES ≡ c.loop-next.page.number)) c.pc-here.ensures c.in-Some.ensures.other)
    (c.in-Some.ensures.number ∙ ap (λ (pc : ℕ). pc / PAGE_BYTES) c.pc-here.ensures)

pub note_ready-requires : goal.note_ready-requires
note_ready-requires g c = (
  omega arith,
  (
    (with_flow c.page_to_go_on.new.core c.quick_steps-straight.new.flow, c.in-Some-page_to_go_on.ensures.code),
    (
      c.in-Some-page_to_go_on.ensures.page,
      (
        sym c.has_touched.ensures ∙ c.if-has_touched.true,
        (with_one c.quick_steps-straight.new.recorder.code_pages c.note_code_page.new.self.code_pages (c.pc-here.result / PAGE_BYTES) c.in-Some-page_to_go_on.next.number
            (c.note_code_page.ensures.code_pages c.in-Some-page_to_go_on.next.number)).1
            (inr (ap (λ (pc : ℕ). pc / PAGE_BYTES) c.pc-here.ensures ∙ sym c.in-Some-page_to_go_on.ensures.number)),
      ),
    ),
  ),
)

pub loop-next-preserved-then-has_touched : goal.loop-next-preserved-then-has_touched
loop-next-preserved-then-has_touched g c = rw c.note_ready.ensures (record {
  goes =
      rw (c.page_to_go_on.ensures.words, c.page_to_go_on.ensures.core, c.ready_page.ensures.words)
      (subst (λ (n : ℕ). GoesOver g.row.PAGES c.args.most c.args.stop n (state_of (with_flow c.args.core.now c.args.flow.now) c.args.memory.now)
      (state_of (with_flow c.quick_steps-straight.new.core c.quick_steps-straight.new.flow) c.quick_steps-straight.new.memory) c.args.recorder.now c.note_code_page.new.self)
      (let e : c.quick_steps-straight.new.recorder.steps - c.steps-begun.result ≡ c.note_code_page.new.self.steps - c.steps-begun.result = omega (arith, c.steps-steps.ensures.steps, c.note_code_page.ensures.steps) in e)
      (over_more g.row.PAGES c.args.most c.args.stop c.loop-next.page (c.loop-next.recorder.steps - c.steps-begun.result) (c.quick_steps-straight.new.recorder.steps - c.steps-begun.result)
      (state_of (with_flow c.args.core.now c.args.flow.now) c.args.memory.now) (state_of (with_flow c.loop-next.core c.loop-next.flow) c.loop-next.memory)
      (state_of (with_flow c.quick_steps-straight.new.core c.quick_steps-straight.new.flow) c.quick_steps-straight.new.memory)
      c.args.recorder.now c.loop-next.recorder c.quick_steps-straight.new.recorder c.note_code_page.new.self (omega (arith, c.quick_steps-straight.ensures.least))
      c.loop-next.invariant.goes c.quick_steps-straight.ensures.goes c.note_code_page.ensures.records
      (λ other. c.note_code_page.ensures.code_pages other ∙ ap (λ (pc : ℕ). holds c.quick_steps-straight.new.recorder.code_pages other || nat_eq (pc / PAGE_BYTES) other) c.pc-here.ensures)
      c.note_code_page.ensures.steps));
  may = record {
    quiet = rw c.page_to_go_on.ensures.core c.quick_steps-straight.ensures.goes.may.quiet;
    code = c.in-Some-page_to_go_on.ensures.code;
    again = sym c.has_touched.ensures ∙ c.if-has_touched.true;
  };
  straight = c.quick_steps-straight.ensures.straight c.if-not-straight.false;
  page = c.in-Some-page_to_go_on.ensures.page;
  opened = c.in-Some-page_to_go_on.ensures.opened;
  least = omega (arith, c.loop-next.invariant.least, c.quick_steps-straight.ensures.least, c.note_code_page.ensures.steps);
})

pub loop-next-smaller-then-has_touched : goal.loop-next-smaller-then-has_touched
loop-next-smaller-then-has_touched g c =
    rw c.note_ready.ensures
    (less_after_steps (c.steps-begun.result + c.args.most) c.loop-next.recorder.steps c.note_code_page.new.self.steps c.loop-next.flow.pc c.loop-next.page.number
    c.quick_steps-straight.new.flow.pc c.in-Some-page_to_go_on.next.number
    (omega (arith, c.quick_steps-straight.ensures.least, c.note_code_page.ensures.steps, c.if-steps-before.true, c.steps-steps.ensures.steps, c.steps-before.ensures.steps))
    (omega (arith, c.quick_steps-straight.ensures.goes.bound, c.quick_steps-straight.ensures.least, c.loop-next.invariant.least, c.note_code_page.ensures.steps)))

pub returns-in_default-made-clause-goes : goal.returns-in_default-made-clause-goes
returns-in_default-made-clause-goes g c =
    let none = c.in_default-made.is in
    rw (c.first_step-made.ensures.core none, c.first_step-made.ensures.flow none, c.first_step-made.ensures.words none, c.first_step-made.ensures.recorder none)
    (rw (c.page_to_go_on.ensures.words, c.page_to_go_on.ensures.core, c.ready_page.ensures.words)
    (subst (λ (n : ℕ). GoesOver g.row.PAGES c.args.most c.args.stop n (state_of (with_flow c.args.core.now c.args.flow.now) c.args.memory.now)
    (state_of (with_flow c.quick_steps-straight.new.core c.quick_steps-straight.new.flow) c.quick_steps-straight.new.memory) c.args.recorder.now c.note_code_page.new.self)
    (let e : c.quick_steps-straight.new.recorder.steps - c.steps-begun.result ≡ c.steps-steps.result - c.steps-begun.result = omega (arith, c.steps-steps.ensures.steps, c.note_code_page.ensures.steps) in e)
    (over_more g.row.PAGES c.args.most c.args.stop c.loop-next.page (c.loop-next.recorder.steps - c.steps-begun.result) (c.quick_steps-straight.new.recorder.steps - c.steps-begun.result)
    (state_of (with_flow c.args.core.now c.args.flow.now) c.args.memory.now) (state_of (with_flow c.loop-next.core c.loop-next.flow) c.loop-next.memory)
    (state_of (with_flow c.quick_steps-straight.new.core c.quick_steps-straight.new.flow) c.quick_steps-straight.new.memory)
    c.args.recorder.now c.loop-next.recorder c.quick_steps-straight.new.recorder c.note_code_page.new.self (omega (arith, c.quick_steps-straight.ensures.least))
    c.loop-next.invariant.goes c.quick_steps-straight.ensures.goes c.note_code_page.ensures.records
    (λ other. c.note_code_page.ensures.code_pages other ∙ ap (λ (pc : ℕ). holds c.quick_steps-straight.new.recorder.code_pages other || nat_eq (pc / PAGE_BYTES) other) c.pc-here.ensures)
    c.note_code_page.ensures.steps)))

pub returns-then-not-goes-clause-goes : goal.returns-then-not-goes-clause-goes
returns-then-not-goes-clause-goes g c =
    let so_far : GoesOver g.row.PAGES c.args.most c.args.stop (c.steps-steps.result - c.steps-begun.result) (state_of (with_flow c.args.core.now c.args.flow.now) c.args.memory.now)
    (state_of (with_flow c.page_to_go_on.new.core c.quick_steps-straight.new.flow) c.page_to_go_on.new.memory) c.args.recorder.now c.note_code_page.new.self =
    rw (c.page_to_go_on.ensures.words, c.page_to_go_on.ensures.core, c.ready_page.ensures.words)
    (subst (λ (n : ℕ). GoesOver g.row.PAGES c.args.most c.args.stop n (state_of (with_flow c.args.core.now c.args.flow.now) c.args.memory.now)
    (state_of (with_flow c.quick_steps-straight.new.core c.quick_steps-straight.new.flow) c.quick_steps-straight.new.memory) c.args.recorder.now c.note_code_page.new.self)
    (let e : c.quick_steps-straight.new.recorder.steps - c.steps-begun.result ≡ c.steps-steps.result - c.steps-begun.result = omega (arith, c.steps-steps.ensures.steps, c.note_code_page.ensures.steps) in e)
    (over_more g.row.PAGES c.args.most c.args.stop c.loop-next.page (c.loop-next.recorder.steps - c.steps-begun.result) (c.quick_steps-straight.new.recorder.steps - c.steps-begun.result)
    (state_of (with_flow c.args.core.now c.args.flow.now) c.args.memory.now) (state_of (with_flow c.loop-next.core c.loop-next.flow) c.loop-next.memory)
    (state_of (with_flow c.quick_steps-straight.new.core c.quick_steps-straight.new.flow) c.quick_steps-straight.new.memory)
    c.args.recorder.now c.loop-next.recorder c.quick_steps-straight.new.recorder c.note_code_page.new.self (omega (arith, c.quick_steps-straight.ensures.least))
    c.loop-next.invariant.goes c.quick_steps-straight.ensures.goes c.note_code_page.ensures.records
    (λ other. c.note_code_page.ensures.code_pages other ∙ ap (λ (pc : ℕ). holds c.quick_steps-straight.new.recorder.code_pages other || nat_eq (pc / PAGE_BYTES) other) c.pc-here.ensures)
    c.note_code_page.ensures.steps)) in
    let goes = subst (λ (n : ℕ). GoesOver g.row.PAGES c.args.most c.args.stop n (state_of (with_flow c.args.core.now c.args.flow.now) c.args.memory.now)
    (state_of (with_flow c.first_step-made.new.core c.first_step-made.new.flow) c.first_step-made.new.memory) c.args.recorder.now c.first_step-made.new.recorder)
    (let e : c.steps-steps.result - c.steps-begun.result + 1 ≡ c.steps.result - c.steps-begun.result = omega (arith, c.steps.ensures.steps, c.in-Some-made.ensures.goes.steps, c.steps-steps.ensures.steps, c.note_code_page.ensures.steps, c.quick_steps-straight.ensures.least, c.loop-next.invariant.least) in e)
    (over_step g.row.PAGES c.args.most c.args.stop (c.steps-steps.result - c.steps-begun.result) (state_of (with_flow c.args.core.now c.args.flow.now) c.args.memory.now)
    (state_of (with_flow c.page_to_go_on.new.core c.quick_steps-straight.new.flow) c.page_to_go_on.new.memory)
    (state_of (with_flow c.first_step-made.new.core c.first_step-made.new.flow) c.first_step-made.new.memory)
    c.args.recorder.now c.note_code_page.new.self c.first_step-made.new.recorder (c.goes_on.ensures.room c.if-not-goes_on.false)
    (λ some at. c.goes_on.ensures.past c.if-not-goes_on.false some (c.pc.ensures ∙ at)) so_far c.in-Some-made.ensures.goes
    (c.quiet_laws.ensures.stays_quiet g.row.PAGES) (c.quiet_laws.ensures.at_once g.row.PAGES)) in
    goes

pub loop-next-preserved : goal.loop-next-preserved
loop-next-preserved g c =
    let so_far : GoesOver g.row.PAGES c.args.most c.args.stop (c.steps-steps.result - c.steps-begun.result) (state_of (with_flow c.args.core.now c.args.flow.now) c.args.memory.now)
    (state_of (with_flow c.page_to_go_on.new.core c.quick_steps-straight.new.flow) c.page_to_go_on.new.memory) c.args.recorder.now c.note_code_page.new.self =
    rw (c.page_to_go_on.ensures.words, c.page_to_go_on.ensures.core, c.ready_page.ensures.words)
    (subst (λ (n : ℕ). GoesOver g.row.PAGES c.args.most c.args.stop n (state_of (with_flow c.args.core.now c.args.flow.now) c.args.memory.now)
    (state_of (with_flow c.quick_steps-straight.new.core c.quick_steps-straight.new.flow) c.quick_steps-straight.new.memory) c.args.recorder.now c.note_code_page.new.self)
    (let e : c.quick_steps-straight.new.recorder.steps - c.steps-begun.result ≡ c.steps-steps.result - c.steps-begun.result = omega (arith, c.steps-steps.ensures.steps, c.note_code_page.ensures.steps) in e)
    (over_more g.row.PAGES c.args.most c.args.stop c.loop-next.page (c.loop-next.recorder.steps - c.steps-begun.result) (c.quick_steps-straight.new.recorder.steps - c.steps-begun.result)
    (state_of (with_flow c.args.core.now c.args.flow.now) c.args.memory.now) (state_of (with_flow c.loop-next.core c.loop-next.flow) c.loop-next.memory)
    (state_of (with_flow c.quick_steps-straight.new.core c.quick_steps-straight.new.flow) c.quick_steps-straight.new.memory)
    c.args.recorder.now c.loop-next.recorder c.quick_steps-straight.new.recorder c.note_code_page.new.self (omega (arith, c.quick_steps-straight.ensures.least))
    c.loop-next.invariant.goes c.quick_steps-straight.ensures.goes c.note_code_page.ensures.records
    (λ other. c.note_code_page.ensures.code_pages other ∙ ap (λ (pc : ℕ). holds c.quick_steps-straight.new.recorder.code_pages other || nat_eq (pc / PAGE_BYTES) other) c.pc-here.ensures)
    c.note_code_page.ensures.steps)) in
    let goes = subst (λ (n : ℕ). GoesOver g.row.PAGES c.args.most c.args.stop n (state_of (with_flow c.args.core.now c.args.flow.now) c.args.memory.now)
    (state_of (with_flow c.first_step-made.new.core c.first_step-made.new.flow) c.first_step-made.new.memory) c.args.recorder.now c.first_step-made.new.recorder)
    (let e : c.steps-steps.result - c.steps-begun.result + 1 ≡ c.first_step-made.new.recorder.steps - c.steps-begun.result = omega (arith, c.in-Some-made.ensures.goes.steps, c.steps-steps.ensures.steps, c.note_code_page.ensures.steps, c.quick_steps-straight.ensures.least, c.loop-next.invariant.least) in e)
    (over_step g.row.PAGES c.args.most c.args.stop (c.steps-steps.result - c.steps-begun.result) (state_of (with_flow c.args.core.now c.args.flow.now) c.args.memory.now)
    (state_of (with_flow c.page_to_go_on.new.core c.quick_steps-straight.new.flow) c.page_to_go_on.new.memory)
    (state_of (with_flow c.first_step-made.new.core c.first_step-made.new.flow) c.first_step-made.new.memory)
    c.args.recorder.now c.note_code_page.new.self c.first_step-made.new.recorder (c.goes_on.ensures.room c.if-not-goes_on.false)
    (λ some at. c.goes_on.ensures.past c.if-not-goes_on.false some (c.pc.ensures ∙ at)) so_far c.in-Some-made.ensures.goes
    (c.quiet_laws.ensures.stays_quiet g.row.PAGES) (c.quiet_laws.ensures.at_once g.row.PAGES)) in record {
      goes = goes;
      may = record {
        quiet = goes.quiet;
        code = c.first_step-made.ensures.code;
        again = c.in-Some-made.ensures.touched c.if-not-goes.false;
      };
      straight = c.in-Some-made.ensures.straight c.if-not-goes.false;
      page = c.in-Some-page_to_go_on.ensures.page;
      opened = c.first_step-made.ensures.opened;
      least = omega (arith, c.loop-next.invariant.least, c.quick_steps-straight.ensures.least, c.note_code_page.ensures.steps, c.in-Some-made.ensures.goes.steps);
    }

pub loop-next-smaller : goal.loop-next-smaller
loop-next-smaller g c =
    less_after_steps (c.steps-begun.result + c.args.most) c.loop-next.recorder.steps c.first_step-made.new.recorder.steps c.loop-next.flow.pc c.loop-next.page.number
    c.first_step-made.new.flow.pc c.in-Some-page_to_go_on.next.number
    (omega (arith, c.quick_steps-straight.ensures.least, c.note_code_page.ensures.steps, c.in-Some-made.ensures.goes.steps))
    (omega (arith, c.quick_steps-straight.ensures.least, c.loop-next.invariant.least, c.note_code_page.ensures.steps, c.in-Some-made.ensures.goes.steps, c.goes_on.ensures.room c.if-not-goes_on.false, c.steps-steps.ensures.steps))
