use Rattle.std.proofs.Common.{◌≡◌, ℕ, ◌+◌, ◌-◌, ◌/◌, ◌||◌, [], nat_eq, refl, sym, ap, ◌∙◌, subst, arith}
use Rattle.r3k_machine.specs.Run.{run, trace}
use Rattle.r3k_machine.specs.State.{State}
use Rattle.r3k_machine.proofs.Splits.{trace_count}
use Rattle.r3k_live.specs.Going.{HasGone}
use Rattle.r3k_live.specs.Living.{state_of}
use Rattle.r3k_live.specs.Record.{is_dirty}
use Rattle.r3k_pages.proofs.Ascending.{outside_pages}
use Rattle.r3k_live.specs.CodePages.{AddsCodePages}
use Rattle.r3k_pages.specs.Pages.{holds}
use Rattle.r3k_word.specs.declared.layout.TheConstants.{PAGE_BYTES}
use Rattle.r3k_live.specs.Visits.{first_visit}
use Rattle.r3k_live.proofs.Going.{visits_here, visits_on}
use Rattle.r3k_live.proofs.CodePages.{first_code_page}
use Rattle.r3k_live.proofs.Recorded.{clean_word, no_last}
use Rattle.r3k_live.proofs.live.step_until.Goals as goal

pub loop-made-init : goal.loop-made-init
unfolding run trace
loop-made-init g c = record {
  gone = record { state = refl; recorded = c.note_code_page.ensures.records [] c.requires.empty; stayed = λ place clean. refl };
  found = λ small. ap (first_visit g.row.PAGES c.args.events c.args.from (state_of c.args.core.now c.args.memory.now) c.args.stop 0) (omega arith);
  left = λ time later. refl;
  code_pages =
      first_code_page g.row.PAGES c.args.events c.args.from (state_of c.args.core.now c.args.memory.now) c.args.recorder.now.code_pages c.note_code_page.new.self.code_pages
      (λ page. c.note_code_page.ensures.code_pages page ∙ ap (λ (pc : ℕ). holds c.args.recorder.now.code_pages page || nat_eq (pc / PAGE_BYTES) page) c.pc.ensures);
  bound = omega arith;
}

pub advance-more-requires : goal.advance-more-requires
advance-more-requires g c =
    let start = state_of c.args.core.now c.args.memory.now in
    let count = c.loop-made.invariant.gone.recorded.count ∙ trace_count g.row.PAGES c.args.events c.args.from start c.loop-made.made in
    (omega arith, (omega (arith, c.loop-made-test.true), (omega (arith, count, c.requires.steps, c.loop-made-test.true), omega (arith, c.requires.time, c.loop-made-test.true))))

pub returns-then-pc-stop-clause-found : goal.returns-then-pc-stop-clause-found
returns-then-pc-stop-clause-found g c =
    let log = c.args.events in
    let start = state_of c.args.core.now c.args.memory.now in
    let made = c.loop-made.made in
    let more = c.advance-more.result in
    let goes = c.advance-more.ensures.goes log c.args.from start made refl c.loop-made.invariant.left c.loop-made.invariant.gone in
    λ small. sym (c.loop-made.invariant.found small
    ∙ visits_here g.row.PAGES log c.args.from start c.args.stop made more c.args.steps c.advance-more.ensures.some
    (omega (arith, c.advance-more.ensures.bound, c.loop-made-test.true))
    (goes.passed small)
    (sym (ap (λ (s : State). s.core.pc) goes.gone.state) ∙ (sym c.pc-in-loop-made.ensures ∙ c.if-pc-stop.true)))

pub returns-then-pc-stop-clause-never : goal.returns-then-pc-stop-clause-never
returns-then-pc-stop-clause-never g c = λ high. absurd (let e : ⊥ = omega (arith, high, c.pc-in-loop-made.type_inv, c.if-pc-stop.true) in e)

pub returns-then-pc-stop-clause-state : goal.returns-then-pc-stop-clause-state
returns-then-pc-stop-clause-state g c =
    (c.advance-more.ensures.goes c.args.events c.args.from (state_of c.args.core.now c.args.memory.now) c.loop-made.made refl c.loop-made.invariant.left c.loop-made.invariant.gone).gone.state

pub returns-then-pc-stop-clause-recorded : goal.returns-then-pc-stop-clause-recorded
returns-then-pc-stop-clause-recorded g c =
    (c.advance-more.ensures.goes c.args.events c.args.from (state_of c.args.core.now c.args.memory.now) c.loop-made.made refl c.loop-made.invariant.left c.loop-made.invariant.gone).gone.recorded

pub returns-then-pc-stop-clause-code_pages : goal.returns-then-pc-stop-clause-code_pages
returns-then-pc-stop-clause-code_pages g c =
    (c.advance-more.ensures.goes c.args.events c.args.from (state_of c.args.core.now c.args.memory.now) c.loop-made.made refl c.loop-made.invariant.left c.loop-made.invariant.gone).code_pages
    c.args.recorder.now.code_pages c.loop-made.invariant.code_pages

pub returns-then-pc-stop-clause-dirty : goal.returns-then-pc-stop-clause-dirty
returns-then-pc-stop-clause-dirty g c =
    let start = state_of c.args.core.now c.args.memory.now in
    let made = c.loop-made.made in
    outside_pages g.row.PAGES (is_dirty (trace g.row.PAGES c.args.events c.args.from start (made + c.advance-more.result)))
    c.args.memory.now.words.items c.advance-more.new.memory.words.items c.args.memory.now.whole c.advance-more.new.memory.whole
    (λ place clean. (c.advance-more.ensures.goes c.args.events c.args.from start made refl c.loop-made.invariant.left c.loop-made.invariant.gone).gone.stayed place
    (clean_word (trace g.row.PAGES c.args.events c.args.from start (made + c.advance-more.result)) place clean))

pub returns-then-pc-stop-clause-stayed : goal.returns-then-pc-stop-clause-stayed
returns-then-pc-stop-clause-stayed g c = λ place none.
    let start = state_of c.args.core.now c.args.memory.now in
    let gone = (c.advance-more.ensures.goes c.args.events c.args.from start c.loop-made.made refl c.loop-made.invariant.left c.loop-made.invariant.gone).gone in
    gone.stayed place (no_last g.row.PAGES (trace g.row.PAGES c.args.events c.args.from start (c.loop-made.made + c.advance-more.result)) _ place gone.recorded none)

pub loop-made-preserved : goal.loop-made-preserved
loop-made-preserved g c =
    let log = c.args.events in
    let start = state_of c.args.core.now c.args.memory.now in
    let made = c.loop-made.made in
    let more = c.advance-more.result in
    let goes = c.advance-more.ensures.goes log c.args.from start made refl c.loop-made.invariant.left c.loop-made.invariant.gone in record {
      gone = goes.gone;
      found = λ small.
          c.loop-made.invariant.found small
          ∙ visits_on g.row.PAGES log c.args.from start c.args.stop made more c.args.steps c.advance-more.ensures.some
          (omega (arith, c.advance-more.ensures.bound, c.loop-made-test.true))
          (goes.passed small) (λ here. c.if-pc-stop.false (c.pc-in-loop-made.ensures ∙ (ap (λ (s : State). s.core.pc) goes.gone.state ∙ here)));
      left = λ time later.
          c.advance-more.ensures.left time (omega (arith, later)) ∙ c.loop-made.invariant.left time (omega (arith, later));
      code_pages = goes.code_pages c.args.recorder.now.code_pages c.loop-made.invariant.code_pages;
      bound = omega (arith, c.advance-more.ensures.bound, c.loop-made-test.true);
    }

pub returns-clause-found : goal.returns-clause-found
unfolding first_visit
returns-clause-found g c =
    let log = c.args.events in
    let start = state_of c.args.core.now c.args.memory.now in
    λ small. sym (c.loop-made.invariant.found small
    ∙ ap (first_visit g.row.PAGES log c.args.from start c.args.stop c.loop-made.made)
    (let e : c.args.steps - c.loop-made.made ≡ 0 = omega (arith, c.loop-made-test.false) in e))

pub returns-clause-state : goal.returns-clause-state
returns-clause-state g c =
    let start = state_of c.args.core.now c.args.memory.now in
    let all : c.loop-made.made ≡ c.args.steps = omega (arith, c.loop-made-test.false, c.loop-made.invariant.bound) in
    c.loop-made.invariant.gone.state ∙ ap (run g.row.PAGES c.args.events c.args.from start) all

pub returns-clause-recorded : goal.returns-clause-recorded
returns-clause-recorded g c =
    let start = state_of c.args.core.now c.args.memory.now in
    let all : c.loop-made.made ≡ c.args.steps = omega (arith, c.loop-made-test.false, c.loop-made.invariant.bound) in
    (subst (λ (n : ℕ). HasGone g.row.PAGES c.args.events c.args.from start n (state_of c.loop-made.core c.loop-made.memory) c.loop-made.recorder) all c.loop-made.invariant.gone).recorded

pub returns-clause-dirty : goal.returns-clause-dirty
returns-clause-dirty g c =
    let start = state_of c.args.core.now c.args.memory.now in
    let all : c.loop-made.made ≡ c.args.steps = omega (arith, c.loop-made-test.false, c.loop-made.invariant.bound) in
    outside_pages g.row.PAGES (is_dirty (trace g.row.PAGES c.args.events c.args.from start c.args.steps))
    c.args.memory.now.words.items c.loop-made.memory.words.items c.args.memory.now.whole c.loop-made.memory.whole
    (λ place clean. (subst (λ (n : ℕ). HasGone g.row.PAGES c.args.events c.args.from start n (state_of c.loop-made.core c.loop-made.memory) c.loop-made.recorder) all c.loop-made.invariant.gone).stayed place
    (clean_word (trace g.row.PAGES c.args.events c.args.from start c.args.steps) place clean))

pub returns-clause-stayed : goal.returns-clause-stayed
returns-clause-stayed g c = λ place none.
    let start = state_of c.args.core.now c.args.memory.now in
    c.loop-made.invariant.gone.stayed place (no_last g.row.PAGES (trace g.row.PAGES c.args.events c.args.from start c.loop-made.made) _ place c.loop-made.invariant.gone.recorded none)

pub returns-clause-code_pages : goal.returns-clause-code_pages
returns-clause-code_pages g c =
    let start = state_of c.args.core.now c.args.memory.now in
    let all : c.loop-made.made ≡ c.args.steps = omega (arith, c.loop-made-test.false, c.loop-made.invariant.bound) in
    subst (λ (n : ℕ). AddsCodePages g.row.PAGES c.args.events c.args.from start n c.args.recorder.now.code_pages c.loop-made.recorder.code_pages) all c.loop-made.invariant.code_pages
