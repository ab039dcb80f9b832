use Rattle.std.proofs.Common.{ℕ, ◌/◌, ◌||◌, ◌++◌, ◌∷◌, [], List, nat_eq, ap, subst, ◌∙◌, arith}
use Rattle.std.proofs.Math.Path.{ap₂}
use Rattle.r3k_word.specs.declared.layout.TheConstants.{PAGE_BYTES}
use Rattle.r3k_machine.specs.Core.{Core}
use Rattle.r3k_machine.specs.Flow.{with_flow}
use Rattle.r3k_machine.specs.Quiet.{IsCodePage}
use Rattle.r3k_machine.specs.Step.{Outcome}
use Rattle.r3k_pages.specs.Pages.{holds}
use Rattle.r3k_live.specs.Living.{state_of}
use Rattle.r3k_live.specs.Recording.{TouchesStored}
use Rattle.r3k_live.proofs.Touched.{instruction_touches}
use Rattle.r3k_live.proofs.stretch.first_step.Goals as goal

pub note-requires : goal.note-requires
note-requires g c =
    let step = c.in_ok-quick.ensures in
    let pages = subst TouchesStored (ap (λ (o : Outcome). o.done) step.ran)
    (instruction_touches g.row.PAGES (state_of (with_flow c.args.core.now c.args.flow.now) c.learn-learned.new.memory)) in
    (omega arith, (c.requires.room, (step.within.stored, (step.within.touched, pages))))

pub returns-then-is_straight-clause-goes : goal.returns-then-is_straight-clause-goes
returns-then-is_straight-clause-goes g c = record {
  done = c.in_ok-quick.quick.done;
  quick = rw c.learn-learned.ensures.words at c.in_ok-quick.ensures.quick;
  ran = rw c.learn-learned.ensures.words at c.in_ok-quick.ensures.ran;
  reports = rw c.learn-learned.ensures.words at c.in_ok-quick.ensures.within;
  steps = c.note_code_page.ensures.steps ∙ c.note.ensures.steps;
  records = λ steps so_far. c.note_code_page.ensures.records (steps ++ c.in_ok-quick.quick.done ∷ []) (c.note.ensures.records steps so_far);
  code_pages = λ other.
      c.note_code_page.ensures.code_pages other
      ∙ ap₂ (λ (set : List ℕ) (pc : ℕ). holds set other || nat_eq (pc / PAGE_BYTES) other) c.note.ensures.code_pages c.pc-3.ensures;
}

pub returns-then-is_straight-clause-code : goal.returns-then-is_straight-clause-code
returns-then-is_straight-clause-code g c =
    subst (λ (core : Core). IsCodePage g.row.PAGES core c.args.page) (ap (λ (o : Outcome). o.state.core) c.in_ok-quick.ensures.ran)
    (c.quiet_laws.ensures.stays_code g.row.PAGES (state_of (with_flow c.args.core.now c.args.flow.now) c.learn-learned.new.memory) c.args.page
    c.in_ok-quick.ensures.quick c.requires.code)

pub returns-else-is_straight-clause-goes : goal.returns-else-is_straight-clause-goes
returns-else-is_straight-clause-goes g c = record {
  done = c.in_ok-quick.quick.done;
  quick = rw c.learn-learned.ensures.words at c.in_ok-quick.ensures.quick;
  ran = rw c.learn-learned.ensures.words at c.in_ok-quick.ensures.ran;
  reports = rw c.learn-learned.ensures.words at c.in_ok-quick.ensures.within;
  steps = c.note_code_page.ensures.steps ∙ c.note.ensures.steps;
  records = λ steps so_far. c.note_code_page.ensures.records (steps ++ c.in_ok-quick.quick.done ∷ []) (c.note.ensures.records steps so_far);
  code_pages = λ other.
      c.note_code_page.ensures.code_pages other
      ∙ ap₂ (λ (set : List ℕ) (pc : ℕ). holds set other || nat_eq (pc / PAGE_BYTES) other) c.note.ensures.code_pages c.pc-3.ensures;
}

pub returns-else-is_straight-clause-code : goal.returns-else-is_straight-clause-code
returns-else-is_straight-clause-code g c =
    subst (λ (core : Core). IsCodePage g.row.PAGES core c.args.page) (ap (λ (o : Outcome). o.state.core) c.in_ok-quick.ensures.ran)
    (c.quiet_laws.ensures.stays_code g.row.PAGES (state_of (with_flow c.args.core.now c.args.flow.now) c.learn-learned.new.memory) c.args.page
    c.in_ok-quick.ensures.quick c.requires.code)

pub returns-else-is_straight-clause-opened : goal.returns-else-is_straight-clause-opened
returns-else-is_straight-clause-opened g c =
    c.quick_step.ensures.opened c.args.page.page ∙ (c.learn-learned.ensures.opened c.args.page.page ∙ c.requires.opened)
