use Rattle.std.proofs.Common.{◌≡◌, ℕ, ◌+◌, ◌<◌, List, sym, ap, subst, ◌∙◌, arith}
use Rattle.r3k_machine.specs.Quiet.{IsQuietFor}
use Rattle.r3k_machine.specs.Run.{arriving}
use Rattle.r3k_machine.specs.State.{State}
use Rattle.r3k_live.specs.Going.{HasGoneFor}
use Rattle.r3k_live.specs.Living.{state_of}
use Rattle.r3k_live.proofs.Gone.{gone_on}
use Rattle.r3k_live.proofs.stretch.run_in.Goals as goal

pub quiet_on-requires : goal.quiet_on-requires
quiet_on-requires g c =
    let made = c.quick_pages-made.result in
    let core = c.quick_pages-made.new.core in
    let quiet = c.quick_pages-made.ensures.goes.quiet in
    let left = λ (room : made < c.args.most). let at_least : IsQuietFor (made + 1) core = record {
      counts = omega (arith, quiet.counts, room);
      sampled = quiet.sampled;
      unwanted = quiet.unwanted;
    } in at_least in (
      omega arith,
      (
        omega arith,
        (
          λ wanted. rw c.elapse.ensures (c.quiet_laws.ensures.quiet_later made 1 core (left (c.goes_on-wanted.ensures.room wanted))),
          (
            rw c.elapse.ensures (c.quiet_laws.ensures.code_later g.row.PAGES made core c.quick_pages-made.new.page c.quick_pages-made.ensures.code),
            (
              c.quick_pages-made.ensures.page,
              λ wanted. omega (arith, c.quick_pages-made.ensures.goes.count, c.requires.room, c.goes_on-wanted.ensures.room wanted),
            ),
          ),
        ),
      ),
    )

pub returns-clause-goes : goal.returns-clause-goes
returns-clause-goes g c = λ log from start made free so_far.
    let quick = c.quick_pages-made.result in
    let there = c.quick_pages-made.ensures.goes.runs log from start made free so_far in
    let ticked : HasGoneFor g.row.PAGES log from start c.args.stop made quick c.args.recorder.now (state_of c.elapse.new.self c.quick_pages-made.new.memory) c.quick_pages-made.new.recorder =
    rw c.elapse.ensures there in
    let learnt : HasGoneFor g.row.PAGES log from start c.args.stop made quick c.args.recorder.now (state_of c.elapse.new.self c.learn_in_slot.new.memory) c.quick_pages-made.new.recorder =
    subst (λ (words : List ℕ). HasGoneFor g.row.PAGES log from start c.args.stop made quick c.args.recorder.now (record { core = c.elapse.new.self; words = words }) c.quick_pages-made.new.recorder) (sym c.learn_in_slot.ensures.words) ticked in
    gone_on g.row.PAGES log from start c.args.stop made quick c.quiet_on.result (state_of c.elapse.new.self c.learn_in_slot.new.memory) (state_of c.quiet_on.new.core c.quiet_on.new.memory)
    c.args.recorder.now c.quick_pages-made.new.recorder c.quiet_on.new.recorder learnt
    (c.quiet_on.ensures.goes log from start c.args.stop (made + quick)
    (λ wanted. ap (arriving log) (let e : from + (made + quick) ≡ from + made + quick = omega arith in e) ∙ free quick (c.goes_on-wanted.ensures.room wanted)) learnt.gone)
    (λ some more here.
    c.goes_on-wanted.ensures.past (c.quiet_on.ensures.wanted more) some (c.pc.ensures ∙ (ap (λ (s : State). s.core.pc) learnt.gone.state ∙ here)))
