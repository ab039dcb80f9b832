use Rattle.std.proofs.Common.{ℕ, ◌/◌, ◌||◌, ◌++◌, ◌∷◌, [], List, nat_eq, ap, subst, ◌∙◌, arith}
use Rattle.std.proofs.Math.Path.{ap₂}
use Rattle.input_log.specs.Event.{LogEvent}
use Rattle.r3k_word.specs.declared.layout.TheConstants.{PAGE_BYTES}
use Rattle.r3k_machine.specs.State.{State}
use Rattle.r3k_machine.specs.Step.{Outcome, outcome_of_step}
use Rattle.r3k_pages.specs.Pages.{holds}
use Rattle.r3k_live.specs.Living.{state_of}
use Rattle.r3k_live.proofs.Gone.{no_more, one_more}
use Rattle.r3k_live.proofs.CodePages.{begins_once, more_code_pages}
use Rattle.r3k_live.specs.Recording.{TouchesStored}
use Rattle.r3k_live.proofs.Touched.{step_touches}
use Rattle.r3k_live.proofs.stretch.quiet_on.Goals as goal

pub note-requires : goal.note-requires
note-requires g c =
    let step = c.in-Some.ensures in
    let pages = subst TouchesStored (ap (λ (o : Outcome). o.done) step.ran) (step_touches g.row.PAGES [] (state_of c.args.core.now c.args.memory.now)) in
    (omega arith, (c.requires.room c.if-not-wanted.false, (step.within.stored, (step.within.touched, pages))))

pub returns-clause-goes : goal.returns-clause-goes
returns-clause-goes g c = λ log from start address made free so_far.
    let s = state_of c.args.core.now c.args.memory.now in
    let t = state_of c.quiet_step.new.core c.quiet_step.new.memory in
    let gone = one_more g.row.PAGES log from start made s t c.in-Some.done c.args.recorder.now c.note_code_page.new.self so_far
    (ap (λ (events : List LogEvent). outcome_of_step g.row.PAGES events s) (free c.if-not-wanted.false) ∙ c.in-Some.ensures.ran)
    (λ steps records. c.note_code_page.ensures.records (steps ++ c.in-Some.done ∷ []) (c.note.ensures.records steps records)) c.in-Some.ensures.within.words in record {
      gone = gone;
      passed = λ small k after below there. omega (arith, after, below);
      code_pages = λ before code_pages.
          more_code_pages g.row.PAGES log from start made 1 _ before c.args.recorder.now.code_pages c.note_code_page.new.self.code_pages code_pages (begins_once g.row.PAGES log from start made)
          (λ page.
          c.note_code_page.ensures.code_pages page
          ∙ ap₂ (λ (set : List ℕ) (pc : ℕ). holds set page || nat_eq (pc / PAGE_BYTES) page) c.note.ensures.code_pages (c.pc.ensures ∙ ap (λ (s : State). s.core.pc) gone.state));
    }

pub returns-then-not-wanted-clause-goes : goal.returns-then-not-wanted-clause-goes
returns-then-not-wanted-clause-goes g c = λ log from start address made free gone.
    no_more g.row.PAGES log from start address made (state_of c.args.core.now c.args.memory.now) c.args.recorder.now gone

pub returns-in_default-clause-goes : goal.returns-in_default-clause-goes
returns-in_default-clause-goes g c = λ log from start address made free gone.
    rw (c.quiet_step.ensures.core c.in_default.is, c.quiet_step.ensures.words c.in_default.is)
    (no_more g.row.PAGES log from start address made (state_of c.args.core.now c.args.memory.now) c.args.recorder.now gone)
