use Rattle.std.proofs.Common.{◌≡◌, ℕ, suc, ◌+◌, ◌-◌, ◌*◌, ◌<◌, List, All, Contains, length, slice_index, sym, subst, ap, ◌∙◌, arith, inl, inr}
use Rattle.std.proofs.Math.Nat.{mul-suc}
use Rattle.std.proofs.lemmas.Bool.{cases_lt}
use Rattle.r3k_machine.specs.Quiet.{IsQuietFor, state_elapsed}
use Rattle.r3k_machine.specs.Run.{trace}
use Rattle.r3k_machine.specs.State.{State}
use Rattle.r3k_live.specs.Going.{GoesOver, HasGone, HasGoneFor, IsFreeFor, LeadsTo}
use Rattle.r3k_live.specs.Living.{state_of}
use Rattle.r3k_live.specs.Recording.{Recording}
use Rattle.r3k_live.specs.declared.stores.Held.{Held}
use Rattle.r3k_live.specs.Waiting.{HasPassed, IsHeld, held_at}
use Rattle.r3k_live.proofs.Gone.{fewer_free, no_more}
use Rattle.r3k_live.proofs.Turns.{came_back, goes_round}
use Rattle.r3k_live.proofs.waiting.go_round_again.Goals as goal

pub returns-then-ready-turn-clause-goes : goal.returns-then-ready-turn-clause-goes
returns-then-ready-turn-clause-goes g c = λ log from start made now left gone.
    rw (c.get_ready.ensures.core, c.get_ready.ensures.words) (no_more g.row.PAGES log from start c.args.stop made _ c.args.recorder.now gone)

pub returns-in_default-held-clause-goes : goal.returns-in_default-held-clause-goes
returns-in_default-held-clause-goes g c = λ log from start made now left gone.
    rw (c.get_ready.ensures.core, c.get_ready.ensures.words) (no_more g.row.PAGES log from start c.args.stop made _ c.args.recorder.now gone)

pub returns-then-steps-turn-clause-goes : goal.returns-then-steps-turn-clause-goes
returns-then-steps-turn-clause-goes g c = λ log from start made now left gone.
    let here : HasGone g.row.PAGES log from start made (state_of c.get_ready.new.core c.get_ready.new.memory) c.args.recorder.now =
    rw (c.get_ready.ensures.core, c.get_ready.ensures.words) gone in
    let free = fewer_free log c.args.time (from + made) c.in-Some.ready.steps c.args.turn now (omega (arith, c.if-ready-turn.false)) (c.in-Some.ensures.free log left) in
    let there = c.quick_pages-steps.ensures.goes.runs log from start made free here in
    rw c.elapse.ensures there

pub returns-clause-goes : goal.returns-clause-goes
returns-clause-goes g c = λ log from start made now left gone.
    let pages = g.row.PAGES in
    let s = state_of c.get_ready.new.core c.get_ready.new.memory in
    let t = state_of c.quick_pages-steps.new.core c.quick_pages-steps.new.memory in
    let r = c.args.recorder.now in
    let mid = c.quick_pages-steps.new.recorder in
    let later = c.pass_turns-passed.new.recorder in
    let turn = c.args.turn in
    let passed = c.pass_turns-passed.result in
    let here : HasGone pages log from start made s r = rw (c.get_ready.ensures.core, c.get_ready.ensures.words) gone in
    let free = c.in-Some.ensures.free log left in
    let quiet : IsQuietFor c.in-Some.ready.steps s.core = rw c.get_ready.ensures.core c.in-Some.ensures.may.quiet in
    let elsewhere : ¬ (s.core.pc ≡ c.args.stop) = rw c.get_ready.ensures.core c.requires.elsewhere in
    let few = fewer_free log c.args.time (from + made) c.in-Some.ready.steps turn now (omega (arith, c.if-ready-turn.false)) free in
    let whole : c.quick_pages-steps.result ≡ turn = omega (arith, c.if-steps-turn.false, c.quick_pages-steps.ensures.goes.bound) in
    let over : GoesOver pages turn c.args.stop turn s t r mid =
    subst (λ (n : ℕ). GoesOver pages turn c.args.stop n s t r mid) whole c.quick_pages-steps.ensures.goes in
    let first : HasGoneFor pages log from start c.args.stop made turn r (state_elapsed turn t) mid = over.runs log from start made few here in
    elim (cases_lt 0 passed) [
      | inl some ↦
          let k = c.pass_turns-passed.ensures.turns.0 in
          let is : passed ≡ turn * k = c.pass_turns-passed.ensures.turns.1 in
          let steps = trace pages log from start made in
          let since : c.steps-since.result ≡ length steps = c.steps-since.ensures.steps ∙ gone.recorded.count in
          let last = c.args.recorder.now.last in
          let words_before : c.words.result.now ≡ s.words = c.words.ensures.words in
          let words_after : c.words-2.result.now ≡ t.words = c.words-2.ensures.words in
          let are : All (IsHeld (c.steps-since.result - turn) last s.words) c.in-Some-held.held.items =
          subst (λ (words : List ℕ). All (IsHeld (c.steps-since.result - turn) last words) c.in-Some-held.held.items) words_before c.in-Some-held.ensures.are in
          let all : (place : ℕ) → length steps < slice_index mid.last place → Contains c.in-Some-held.held.items (held_at t.words place) =
          λ place after.
          subst (λ (words : List ℕ). Contains c.in-Some-held.held.items (held_at words place)) words_after
          (subst (λ (held : List Held). Contains held (held_at c.words-2.result.now place)) c.deref.ensures.0
          (c.pass_turns-passed.ensures.held some place (subst (λ (n : ℕ). n < slice_index mid.last place) (sym since) after))) in
          let long : length t.words ≡ length s.words = ap length (sym words_after) ∙ (c.words-2.ensures.whole ∙ (sym c.words.ensures.whole ∙ ap length words_before)) in
          let same : t ≡ s = came_back pages turn s t r mid steps c.in-Some-held.held.items last (c.steps-since.result - turn) c.processor-processor.result
          (c.quiet_laws.ensures.leaves_rest pages) over.leads gone.recorded are all long c.processor-processor.ensures (c.pass_turns-passed.ensures.processor some) in
          let leads : LeadsTo pages turn s s r mid = subst (λ (u : State). LeadsTo pages turn s u r mid) same over.leads in
          let again : HasGoneFor pages log from start c.args.stop made turn r (state_elapsed turn s) mid =
          subst (λ (u : State). HasGoneFor pages log from start c.args.stop made turn r (state_elapsed turn u) mid) same first in
          let sum : turn * suc k ≡ turn + passed = omega (arith, mul-suc turn k, is) in
          let round = goes_round pages log from start c.args.stop made turn k c.in-Some.ready.steps s r mid later c.quiet_laws.ensures.none (c.quiet_laws.ensures.at_once pages)
          (λ n s. c.quiet_laws.ensures.stays_quiet pages n s) (c.quiet_laws.ensures.sends_nothing pages)
          (omega (arith, sum, c.pass_turns-passed.ensures.bound, c.if-ready-turn.false)) quiet (subst (IsFreeFor c.in-Some.ready.steps log) now free) elsewhere leads
          (subst (λ (n : ℕ). HasPassed pages n (turn * k) mid later) c.steps-since.ensures.steps (subst (λ (n : ℕ). HasPassed pages c.steps-since.result n mid later) is (c.pass_turns-passed.ensures.passed some)))
          here again in
          let done : HasGoneFor pages log from start c.args.stop made (turn + passed) r (state_elapsed (turn + passed) s) later =
          subst (λ (n : ℕ). HasGoneFor pages log from start c.args.stop made n r (state_elapsed n s) later) sum round in
          let there : HasGoneFor pages log from start c.args.stop made (turn + passed) r (state_elapsed (turn + passed) t) later =
          subst (λ (u : State). HasGoneFor pages log from start c.args.stop made (turn + passed) r (state_elapsed (turn + passed) u) later) (sym same) done in
          rw c.elapse-2.ensures there
      | inr none ↦
          let nothing : passed ≡ 0 = omega (arith, none) in
          let sum : turn ≡ turn + passed = omega (arith, nothing) in
          let there : HasGoneFor pages log from start c.args.stop made (turn + passed) r (state_elapsed (turn + passed) t) later =
          subst (λ (last : Recording). HasGoneFor pages log from start c.args.stop made (turn + passed) r (state_elapsed (turn + passed) t) last) (sym (c.pass_turns-passed.ensures.stays nothing))
          (subst (λ (n : ℕ). HasGoneFor pages log from start c.args.stop made n r (state_elapsed n t) mid) sum first) in
          rw c.elapse-2.ensures there
    ]
