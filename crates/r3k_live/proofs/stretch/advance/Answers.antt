use Rattle.std.proofs.Common.{◌≡◌, ℕ, ◌+◌, ◌/◌, ◌||◌, ◌++◌, ◌∷◌, [], List, nat_eq, sym, ap, subst, ◌∙◌, arith}
use Rattle.std.proofs.Math.Path.{ap₂}
use Rattle.input_log.specs.Event.{LogEvent}
use Rattle.input_log.specs.Log.{window_of}
use Rattle.r3k_word.specs.declared.layout.TheConstants.{PAGE_BYTES}
use Rattle.r3k_machine.specs.Run.{arriving}
use Rattle.r3k_machine.specs.State.{State}
use Rattle.r3k_machine.specs.Step.{outcome_of_step}
use Rattle.r3k_pages.specs.Pages.{holds}
use Rattle.r3k_live.specs.Going.{HasGone}
use Rattle.r3k_live.specs.Living.{state_of}
use Rattle.r3k_live.specs.CodePages.{AddsCodePages}
use Rattle.r3k_live.proofs.Going.{left_later}
use Rattle.r3k_live.proofs.Gone.{goes_for_more, one_more}
use Rattle.r3k_live.proofs.CodePages.{begins_once, more_code_pages}
use Rattle.r3k_live.specs.Recording.{TouchesStored}
use Rattle.r3k_live.proofs.Touched.{step_touches}
use Rattle.r3k_live.proofs.stretch.advance.Goals as goal

pub note-requires : goal.note-requires
note-requires g c =
    let step = c.step-done.ensures in
    let pages = subst TouchesStored (sym step.report) (step_touches g.row.PAGES c.next.result.now (state_of c.stretch-made.new.core c.stretch-made.new.memory)) in
    (omega arith, (omega (arith, c.requires.room, c.requires.some, c.stretch-made.ensures.steps, c.if-made-gt0-2.false), (step.within.stored, (step.within.touched, pages))))

pub returns-then-pc-stop-clause-goes : goal.returns-then-pc-stop-clause-goes
returns-then-pc-stop-clause-goes g c =
    goes_for_more g.row.PAGES c.args.time c.args.events.now c.args.stop c.stretch-made.result c.wait.result (state_of c.args.core.now c.args.memory.now)
    (state_of c.stretch-made.new.core c.stretch-made.new.memory) (state_of c.wait.new.core c.wait.new.memory)
    c.args.recorder.now c.stretch-made.new.recorder c.wait.new.recorder
    c.stretch-made.ensures.goes c.wait.ensures.goes
    (λ here. c.if-pc-stop.true (c.pc.ensures ∙ here))

pub returns-clause-goes : goal.returns-clause-goes
returns-clause-goes g c = λ log from start made now left so_far.
    let s = state_of c.stretch-made.new.core c.stretch-made.new.memory in
    let t = state_of c.step-done.new.core c.step-done.new.memory in
    let none : made + c.stretch-made.result ≡ made = omega (arith, c.if-made-gt0-2.false) in
    let stretch = c.stretch-made.ensures.goes log from start made now left so_far in
    let here = subst (λ (n : ℕ). HasGone g.row.PAGES log from start n s c.stretch-made.new.recorder) none stretch.gone in
    let events = ap (arriving log) (sym now) ∙ (sym (left c.args.time (omega arith)) ∙ sym c.next.ensures.events) in
    let outcome : outcome_of_step g.row.PAGES c.next.result.now s ≡ record { state = t; done = c.step-done.result } =
    λ i. record { state = sym c.step-done.ensures.state i; done = sym c.step-done.ensures.report i } in
    let gone = one_more g.row.PAGES log from start made s t c.step-done.result c.stretch-made.new.recorder c.note_code_page.new.self here
    (ap (λ (e : List LogEvent). outcome_of_step g.row.PAGES e s) events ∙ outcome)
    (λ steps so_far. c.note_code_page.ensures.records (steps ++ c.step-done.result ∷ []) (c.note.ensures.records steps so_far)) c.step-done.ensures.within.words in record {
      gone = gone;
      passed = λ small k after below there. omega (arith, after, below);
      code_pages = λ before code_pages.
          more_code_pages g.row.PAGES log from start made 1 _ before c.stretch-made.new.recorder.code_pages c.note_code_page.new.self.code_pages
          (subst (λ (n : ℕ). AddsCodePages g.row.PAGES log from start n before c.stretch-made.new.recorder.code_pages) none (stretch.code_pages before code_pages))
          (begins_once g.row.PAGES log from start made)
          (λ page.
          c.note_code_page.ensures.code_pages page
          ∙ ap₂ (λ (set : List ℕ) (pc : ℕ). holds set page || nat_eq (pc / PAGE_BYTES) page) c.note.ensures.code_pages (c.pc-2.ensures ∙ ap (λ (s : State). s.core.pc) gone.state));
    }

pub returns-clause-left : goal.returns-clause-left
returns-clause-left g c = λ later after.
    ap (λ (events : List LogEvent). window_of later (later + 1) events) c.next.ensures.left
    ∙ left_later c.args.time later c.args.events.now (omega (arith, after))
