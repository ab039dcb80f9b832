use Rattle.std.proofs.Common.{◌∙◌, ℕ, ◌+◌, ◌-◌, ◌<◌, ◌≤◌, ap, refl, sym, subst, arith}
use Rattle.r3k_word.specs.declared.layout.TheConstants.{PAGE_WORDS}
use Rattle.r3k_machine.specs.Flow.{with_flow}
use Rattle.r3k_machine.specs.Quiet.{IsIndexIn}
use Rattle.r3k_table.specs.Mnemonics.{number_of}
use Rattle.r3k_decode.specs.Operation.{Operation}
use Rattle.r3k_live.specs.Living.{known_in, state_of}
use Rattle.r3k_live.specs.Recording.{Recording}
use Rattle.r3k_live.proofs.Quick.{address_of, at_next, fewer_than, goes_nowhere, if_so, more_to, not_at, still_named, word_here}
use Rattle.r3k_live.proofs.stretch.step_straight.Goals.{in-Word, in-WordAfterHiLo, in-WordAfterNone}
use Rattle.r3k_live.proofs.stretch.step_straight.Goals as goal

pub loop-ahead-init : goal.loop-ahead-init
loop-ahead-init g c = rw c.new-index.ensures record {
  at = record {
    goes = λ address word.
        goes_nowhere g.row.PAGES c.args.most address c.args.page (c.args.recorder.now.steps - c.args.begun) (state_of (with_flow c.args.core.now c.args.flow.now) c.args.memory.now)
        c.args.recorder.now (omega (arith, c.requires.begun, c.requires.made)) c.requires.may;
    may = c.requires.may;
    here = address_of c.args.page c.args.flow.now.pc c.args.first c.requires.may.code.within c.requires.here;
    next = λ free. c.requires.straight.next;
    count = omega arith;
    low = omega arith;
    high = omega arith;
    within = omega arith;
  };
  free = c.requires.straight.free;
  opened = c.requires.opened;
  named = c.mnemonic-ahead.ensures ∙ ap (λ (o : Operation). o.row) c.insn.ensures.known;
}

pub returns-in_err-quick-clause-goes : goal.returns-in_err-quick-clause-goes
returns-in_err-quick-clause-goes g c = rw (c.in_err-quick.ensures.core refl, c.in_err-quick.ensures.flow refl, c.in_err-quick.ensures.words refl, c.pin_straight.ensures) c.loop-ahead.invariant.at.goes

pub returns-in-DelaySlot-clause-goes : goal.returns-in-DelaySlot-clause-goes
returns-in-DelaySlot-clause-goes g c = (at_next c.step_quickly.new.core c.step_quickly.new.flow c.step_quickly.new.memory.words.items (rw c.steps.ensures.steps at c.last_of-last.ensures.ends) c.loop-ahead.invariant.at
    (more_to c.loop-ahead.index c.args.first c.last_of-last.result c.args.recorder.now.steps c.loop-ahead.recorder.steps c.steps-in-loop-ahead.result c.steps-in-loop-ahead.ensures.steps
    c.loop-ahead.invariant.at.count c.loop-ahead.invariant.at.low c.loop-ahead-test.true)
    (rw c.number-at.ensures.number at c.in_ok-quick.ensures.inside) c.loop-ahead.invariant.free (rw c.pin_straight.ensures at c.in_ok-quick.ensures.leads) (rw c.pin_straight.ensures at c.in_ok-quick.ensures.goes) c.note_again.ensures).goes

pub returns-in-DelaySlot-clause-within : goal.returns-in-DelaySlot-clause-within
returns-in-DelaySlot-clause-within g c = if_so c.delay_slot.result c.delay_slot.ensures (λ slot so. omega (arith, so.0, c.in_ok-quick.ensures.inside))

pub returns-in-DelaySlot-clause-here : goal.returns-in-DelaySlot-clause-here
returns-in-DelaySlot-clause-here g c =
    let at = at_next c.step_quickly.new.core c.step_quickly.new.flow c.step_quickly.new.memory.words.items (rw c.steps.ensures.steps at c.last_of-last.ensures.ends) c.loop-ahead.invariant.at
    (more_to c.loop-ahead.index c.args.first c.last_of-last.result c.args.recorder.now.steps c.loop-ahead.recorder.steps c.steps-in-loop-ahead.result c.steps-in-loop-ahead.ensures.steps
    c.loop-ahead.invariant.at.count c.loop-ahead.invariant.at.low c.loop-ahead-test.true)
    (rw c.number-at.ensures.number at c.in_ok-quick.ensures.inside) c.loop-ahead.invariant.free (rw c.pin_straight.ensures at c.in_ok-quick.ensures.leads) (rw c.pin_straight.ensures at c.in_ok-quick.ensures.goes) c.note_again.ensures in
    let ends = (rw c.steps.ensures.steps at c.last_of-last.ensures.ends) in
    if_so c.delay_slot.result c.delay_slot.ensures
    (λ slot so inside.
    subst (λ (slot : ℕ). IsIndexIn c.args.page c.step_quickly.new.flow.pc slot) (sym (rw c.number-at.ensures.number at so.0)) (word_here _ _ _ _ _ _ _ _ _ _ _ _ _ _ at (omega (arith, c.number-at.ensures.number, so.0, inside))))

pub returns-in-DelaySlot-clause-room : goal.returns-in-DelaySlot-clause-room
returns-in-DelaySlot-clause-room g c =
    let at = at_next c.step_quickly.new.core c.step_quickly.new.flow c.step_quickly.new.memory.words.items (rw c.steps.ensures.steps at c.last_of-last.ensures.ends) c.loop-ahead.invariant.at
    (more_to c.loop-ahead.index c.args.first c.last_of-last.result c.args.recorder.now.steps c.loop-ahead.recorder.steps c.steps-in-loop-ahead.result c.steps-in-loop-ahead.ensures.steps
    c.loop-ahead.invariant.at.count c.loop-ahead.invariant.at.low c.loop-ahead-test.true)
    (rw c.number-at.ensures.number at c.in_ok-quick.ensures.inside) c.loop-ahead.invariant.free (rw c.pin_straight.ensures at c.in_ok-quick.ensures.leads) (rw c.pin_straight.ensures at c.in_ok-quick.ensures.goes) c.note_again.ensures in
    let ends = (rw c.steps.ensures.steps at c.last_of-last.ensures.ends) in
    if_so c.delay_slot.result c.delay_slot.ensures
    (λ slot so. fewer_than _ _ _ _ _ _ _ _ _ _ _ _ _ _ ends at (more_to (c.loop-ahead.index + 1) c.args.first c.last_of-last.result c.args.recorder.now.steps c.note_again.new.self.steps c.steps-in-DelaySlot.result c.steps-in-DelaySlot.ensures.steps at.count at.low so.1))

pub returns-in-DelaySlot-clause-elsewhere : goal.returns-in-DelaySlot-clause-elsewhere
returns-in-DelaySlot-clause-elsewhere g c =
    let at = at_next c.step_quickly.new.core c.step_quickly.new.flow c.step_quickly.new.memory.words.items (rw c.steps.ensures.steps at c.last_of-last.ensures.ends) c.loop-ahead.invariant.at
    (more_to c.loop-ahead.index c.args.first c.last_of-last.result c.args.recorder.now.steps c.loop-ahead.recorder.steps c.steps-in-loop-ahead.result c.steps-in-loop-ahead.ensures.steps
    c.loop-ahead.invariant.at.count c.loop-ahead.invariant.at.low c.loop-ahead-test.true)
    (rw c.number-at.ensures.number at c.in_ok-quick.ensures.inside) c.loop-ahead.invariant.free (rw c.pin_straight.ensures at c.in_ok-quick.ensures.leads) (rw c.pin_straight.ensures at c.in_ok-quick.ensures.goes) c.note_again.ensures in
    let ends = (rw c.steps.ensures.steps at c.last_of-last.ensures.ends) in
    if_so c.delay_slot.result c.delay_slot.ensures
    (λ slot so inside address word.
    let in_page : c.loop-ahead.index + 1 < PAGE_WORDS = omega (arith, c.number-at.ensures.number, so.0, inside) in
    let more = (more_to (c.loop-ahead.index + 1) c.args.first c.last_of-last.result c.args.recorder.now.steps c.note_again.new.self.steps c.steps-in-DelaySlot.result c.steps-in-DelaySlot.ensures.steps at.count at.low so.1) in
    not_at c.args.page address c.args.first (c.loop-ahead.index + 1) _ c.args.halt _ at.low more in_page ends.stops word (word_here _ _ _ _ _ _ _ _ _ _ _ _ _ _ at in_page))

pub loop-ahead-preserved-in-WordAfterLoad : goal.loop-ahead-preserved-in-WordAfterLoad
loop-ahead-preserved-in-WordAfterLoad g c = rw c.advance.ensures record {
  at = at_next c.step_quickly.new.core c.step_quickly.new.flow c.step_quickly.new.memory.words.items (rw c.steps.ensures.steps at c.last_of-last.ensures.ends) c.loop-ahead.invariant.at
      (more_to c.loop-ahead.index c.args.first c.last_of-last.result c.args.recorder.now.steps c.loop-ahead.recorder.steps c.steps-in-loop-ahead.result c.steps-in-loop-ahead.ensures.steps
      c.loop-ahead.invariant.at.count c.loop-ahead.invariant.at.low c.loop-ahead-test.true)
      (rw c.number-at.ensures.number at c.in_ok-quick.ensures.inside) c.loop-ahead.invariant.free (rw c.pin_straight.ensures at c.in_ok-quick.ensures.leads) (rw c.pin_straight.ensures at c.in_ok-quick.ensures.goes) c.note_again-in-WordAfterLoad.ensures;
  free = rw c.in-WordAfterLoad.is at c.in_ok-quick.ensures.next;
  opened = c.step_quickly.ensures.opened;
  named = still_named (known_in g.row.PAGES c.loop-ahead.memory) (known_in g.row.PAGES c.step_quickly.new.memory) c.args.page.page (c.loop-ahead.index + 1) (number_of c.name_after-ahead.result)
      (rw c.in-WordAfterLoad.is at c.in_ok-quick.ensures.knows) (rw c.number-at.ensures.number at (c.name_after-ahead.ensures c.in_ok-quick.ensures.inside));
}

pub loop-at-init : goal.loop-at-init
loop-at-init g c =
    elim c.match-quick.branch [
      | in-Word w ↦
          let next = rw w.in-Word.is at c.in_ok-quick.ensures.next in rw (w.recorder-is, w.index-is, w.ahead-is, w.advance-in-Word.ensures) record {
            at = at_next c.step_quickly.new.core c.step_quickly.new.flow c.step_quickly.new.memory.words.items (rw c.steps.ensures.steps at c.last_of-last.ensures.ends) c.loop-ahead.invariant.at
                (more_to c.loop-ahead.index c.args.first c.last_of-last.result c.args.recorder.now.steps c.loop-ahead.recorder.steps c.steps-in-loop-ahead.result c.steps-in-loop-ahead.ensures.steps
                c.loop-ahead.invariant.at.count c.loop-ahead.invariant.at.low c.loop-ahead-test.true)
                (rw c.number-at.ensures.number at c.in_ok-quick.ensures.inside) c.loop-ahead.invariant.free (rw c.pin_straight.ensures at c.in_ok-quick.ensures.leads) (rw c.pin_straight.ensures at c.in_ok-quick.ensures.goes) w.note_again-in-Word.ensures;
            free = next.1;
            unloaded = next.0;
            opened = c.step_quickly.ensures.opened;
            named = still_named (known_in g.row.PAGES c.loop-ahead.memory) (known_in g.row.PAGES c.step_quickly.new.memory) c.args.page.page (c.loop-ahead.index + 1) (number_of c.name_after-ahead.result)
                (rw w.in-Word.is at c.in_ok-quick.ensures.knows) (rw c.number-at.ensures.number at (c.name_after-ahead.ensures c.in_ok-quick.ensures.inside));
            least = omega arith;
          }
      | in-WordAfterHiLo w ↦
          let next = rw w.in-WordAfterHiLo.is at c.in_ok-quick.ensures.next in rw (w.recorder-is, w.index-is, w.ahead-is, w.advance-in-WordAfterHiLo.ensures) record {
            at = at_next c.step_quickly.new.core c.step_quickly.new.flow c.step_quickly.new.memory.words.items (rw c.steps.ensures.steps at c.last_of-last.ensures.ends) c.loop-ahead.invariant.at
                (more_to c.loop-ahead.index c.args.first c.last_of-last.result c.args.recorder.now.steps c.loop-ahead.recorder.steps c.steps-in-loop-ahead.result c.steps-in-loop-ahead.ensures.steps
                c.loop-ahead.invariant.at.count c.loop-ahead.invariant.at.low c.loop-ahead-test.true)
                (rw c.number-at.ensures.number at c.in_ok-quick.ensures.inside) c.loop-ahead.invariant.free (rw c.pin_straight.ensures at c.in_ok-quick.ensures.leads) (rw c.pin_straight.ensures at c.in_ok-quick.ensures.goes) w.note_again-in-WordAfterHiLo.ensures;
            free = next.1;
            unloaded = next.0;
            opened = c.step_quickly.ensures.opened;
            named = still_named (known_in g.row.PAGES c.loop-ahead.memory) (known_in g.row.PAGES c.step_quickly.new.memory) c.args.page.page (c.loop-ahead.index + 1) (number_of c.name_after-ahead.result)
                (rw w.in-WordAfterHiLo.is at c.in_ok-quick.ensures.knows) (rw c.number-at.ensures.number at (c.name_after-ahead.ensures c.in_ok-quick.ensures.inside));
            least = omega arith;
          }
      | in-WordAfterNone w ↦
          let next = rw w.in-WordAfterNone.is at c.in_ok-quick.ensures.next in rw (w.recorder-is, w.index-is, w.ahead-is, w.advance-in-WordAfterNone.ensures) record {
            at = at_next c.step_quickly.new.core c.step_quickly.new.flow c.step_quickly.new.memory.words.items (rw c.steps.ensures.steps at c.last_of-last.ensures.ends) c.loop-ahead.invariant.at
                (more_to c.loop-ahead.index c.args.first c.last_of-last.result c.args.recorder.now.steps c.loop-ahead.recorder.steps c.steps-in-loop-ahead.result c.steps-in-loop-ahead.ensures.steps
                c.loop-ahead.invariant.at.count c.loop-ahead.invariant.at.low c.loop-ahead-test.true)
                (rw c.number-at.ensures.number at c.in_ok-quick.ensures.inside) c.loop-ahead.invariant.free (rw c.pin_straight.ensures at c.in_ok-quick.ensures.leads) (rw c.pin_straight.ensures at c.in_ok-quick.ensures.goes) w.note_again-in-WordAfterNone.ensures;
            free = next.1;
            unloaded = next.0;
            opened = c.step_quickly.ensures.opened;
            named = rw c.number-at.ensures.number at (w.name_after-ahead-in-WordAfterNone.ensures c.in_ok-quick.ensures.inside);
            least = omega arith;
          }
    ]

pub loop-ahead-preserved-in-loop-at : goal.loop-ahead-preserved-in-loop-at
loop-ahead-preserved-in-loop-at g c = record {
  at = c.loop-at.invariant.at;
  free = c.loop-at.invariant.free;
  opened = c.loop-at.invariant.opened;
  named = c.loop-at.invariant.named;
}

pub returns-in_err-quick-2-clause-goes : goal.returns-in_err-quick-2-clause-goes
returns-in_err-quick-2-clause-goes g c = rw (c.in_err-quick-2.ensures.core refl, c.in_err-quick-2.ensures.flow refl, c.in_err-quick-2.ensures.words refl, c.pin_unloaded.ensures, c.pin_straight-in-loop-at.ensures) c.loop-at.invariant.at.goes

pub returns-in-DelaySlot-next-clause-goes : goal.returns-in-DelaySlot-next-clause-goes
returns-in-DelaySlot-next-clause-goes g c = (at_next c.step_quickly-in-loop-at.new.core c.step_quickly-in-loop-at.new.flow c.step_quickly-in-loop-at.new.memory.words.items (rw c.steps.ensures.steps at c.last_of-last.ensures.ends) c.loop-at.invariant.at
    (more_to c.loop-at.index c.args.first c.last_of-last.result c.args.recorder.now.steps c.loop-at.recorder.steps c.steps-in-loop-at.result c.steps-in-loop-at.ensures.steps
    c.loop-at.invariant.at.count c.loop-at.invariant.at.low c.loop-at-test.true)
    (rw c.number-at-in-loop-at.ensures.number at c.in_ok-quick-2.ensures.inside) c.loop-at.invariant.free (rw (c.pin_unloaded.ensures, c.pin_straight-in-loop-at.ensures) at c.in_ok-quick-2.ensures.leads) (rw (c.pin_unloaded.ensures, c.pin_straight-in-loop-at.ensures) at c.in_ok-quick-2.ensures.goes) c.note_again-in-DelaySlot-next.ensures).goes

pub returns-in-DelaySlot-next-clause-here : goal.returns-in-DelaySlot-next-clause-here
returns-in-DelaySlot-next-clause-here g c =
    let at = at_next c.step_quickly-in-loop-at.new.core c.step_quickly-in-loop-at.new.flow c.step_quickly-in-loop-at.new.memory.words.items (rw c.steps.ensures.steps at c.last_of-last.ensures.ends) c.loop-at.invariant.at
    (more_to c.loop-at.index c.args.first c.last_of-last.result c.args.recorder.now.steps c.loop-at.recorder.steps c.steps-in-loop-at.result c.steps-in-loop-at.ensures.steps
    c.loop-at.invariant.at.count c.loop-at.invariant.at.low c.loop-at-test.true)
    (rw c.number-at-in-loop-at.ensures.number at c.in_ok-quick-2.ensures.inside) c.loop-at.invariant.free (rw (c.pin_unloaded.ensures, c.pin_straight-in-loop-at.ensures) at c.in_ok-quick-2.ensures.leads) (rw (c.pin_unloaded.ensures, c.pin_straight-in-loop-at.ensures) at c.in_ok-quick-2.ensures.goes) c.note_again-in-DelaySlot-next.ensures in
    let ends = (rw c.steps.ensures.steps at c.last_of-last.ensures.ends) in
    if_so c.delay_slot-in-DelaySlot-next.result c.delay_slot-in-DelaySlot-next.ensures
    (λ slot so inside.
    subst (λ (slot : ℕ). IsIndexIn c.args.page c.step_quickly-in-loop-at.new.flow.pc slot) (sym (rw c.number-at-in-loop-at.ensures.number at so.0)) (word_here _ _ _ _ _ _ _ _ _ _ _ _ _ _ at (omega (arith, c.number-at-in-loop-at.ensures.number, so.0, inside))))

pub returns-in-DelaySlot-next-clause-room : goal.returns-in-DelaySlot-next-clause-room
returns-in-DelaySlot-next-clause-room g c =
    let at = at_next c.step_quickly-in-loop-at.new.core c.step_quickly-in-loop-at.new.flow c.step_quickly-in-loop-at.new.memory.words.items (rw c.steps.ensures.steps at c.last_of-last.ensures.ends) c.loop-at.invariant.at
    (more_to c.loop-at.index c.args.first c.last_of-last.result c.args.recorder.now.steps c.loop-at.recorder.steps c.steps-in-loop-at.result c.steps-in-loop-at.ensures.steps
    c.loop-at.invariant.at.count c.loop-at.invariant.at.low c.loop-at-test.true)
    (rw c.number-at-in-loop-at.ensures.number at c.in_ok-quick-2.ensures.inside) c.loop-at.invariant.free (rw (c.pin_unloaded.ensures, c.pin_straight-in-loop-at.ensures) at c.in_ok-quick-2.ensures.leads) (rw (c.pin_unloaded.ensures, c.pin_straight-in-loop-at.ensures) at c.in_ok-quick-2.ensures.goes) c.note_again-in-DelaySlot-next.ensures in
    let ends = (rw c.steps.ensures.steps at c.last_of-last.ensures.ends) in
    if_so c.delay_slot-in-DelaySlot-next.result c.delay_slot-in-DelaySlot-next.ensures
    (λ slot so. fewer_than _ _ _ _ _ _ _ _ _ _ _ _ _ _ ends at (more_to (c.loop-at.index + 1) c.args.first c.last_of-last.result c.args.recorder.now.steps c.note_again-in-DelaySlot-next.new.self.steps c.steps-in-DelaySlot-next.result c.steps-in-DelaySlot-next.ensures.steps at.count at.low so.1))

pub returns-in-DelaySlot-next-clause-elsewhere : goal.returns-in-DelaySlot-next-clause-elsewhere
returns-in-DelaySlot-next-clause-elsewhere g c =
    let at = at_next c.step_quickly-in-loop-at.new.core c.step_quickly-in-loop-at.new.flow c.step_quickly-in-loop-at.new.memory.words.items (rw c.steps.ensures.steps at c.last_of-last.ensures.ends) c.loop-at.invariant.at
    (more_to c.loop-at.index c.args.first c.last_of-last.result c.args.recorder.now.steps c.loop-at.recorder.steps c.steps-in-loop-at.result c.steps-in-loop-at.ensures.steps
    c.loop-at.invariant.at.count c.loop-at.invariant.at.low c.loop-at-test.true)
    (rw c.number-at-in-loop-at.ensures.number at c.in_ok-quick-2.ensures.inside) c.loop-at.invariant.free (rw (c.pin_unloaded.ensures, c.pin_straight-in-loop-at.ensures) at c.in_ok-quick-2.ensures.leads) (rw (c.pin_unloaded.ensures, c.pin_straight-in-loop-at.ensures) at c.in_ok-quick-2.ensures.goes) c.note_again-in-DelaySlot-next.ensures in
    let ends = (rw c.steps.ensures.steps at c.last_of-last.ensures.ends) in
    if_so c.delay_slot-in-DelaySlot-next.result c.delay_slot-in-DelaySlot-next.ensures
    (λ slot so inside address word.
    let in_page : c.loop-at.index + 1 < PAGE_WORDS = omega (arith, c.number-at-in-loop-at.ensures.number, so.0, inside) in
    let more = (more_to (c.loop-at.index + 1) c.args.first c.last_of-last.result c.args.recorder.now.steps c.note_again-in-DelaySlot-next.new.self.steps c.steps-in-DelaySlot-next.result c.steps-in-DelaySlot-next.ensures.steps at.count at.low so.1) in
    not_at c.args.page address c.args.first (c.loop-at.index + 1) _ c.args.halt _ at.low more in_page ends.stops word (word_here _ _ _ _ _ _ _ _ _ _ _ _ _ _ at in_page))

pub loop-ahead-preserved : goal.loop-ahead-preserved
loop-ahead-preserved g c = rw c.advance-in-WordAfterLoad-next.ensures record {
  at = at_next c.step_quickly-in-loop-at.new.core c.step_quickly-in-loop-at.new.flow c.step_quickly-in-loop-at.new.memory.words.items (rw c.steps.ensures.steps at c.last_of-last.ensures.ends) c.loop-at.invariant.at
      (more_to c.loop-at.index c.args.first c.last_of-last.result c.args.recorder.now.steps c.loop-at.recorder.steps c.steps-in-loop-at.result c.steps-in-loop-at.ensures.steps
      c.loop-at.invariant.at.count c.loop-at.invariant.at.low c.loop-at-test.true)
      (rw c.number-at-in-loop-at.ensures.number at c.in_ok-quick-2.ensures.inside) c.loop-at.invariant.free (rw (c.pin_unloaded.ensures, c.pin_straight-in-loop-at.ensures) at c.in_ok-quick-2.ensures.leads) (rw (c.pin_unloaded.ensures, c.pin_straight-in-loop-at.ensures) at c.in_ok-quick-2.ensures.goes) c.note_again-in-WordAfterLoad-next.ensures;
  free = rw c.in-WordAfterLoad-next.is at c.in_ok-quick-2.ensures.next;
  opened = c.step_quickly-in-loop-at.ensures.opened;
  named = still_named (known_in g.row.PAGES c.loop-at.memory) (known_in g.row.PAGES c.step_quickly-in-loop-at.new.memory) c.args.page.page (c.loop-at.index + 1) (number_of c.name_after-ahead-in-loop-at.result)
      (rw c.in-WordAfterLoad-next.is at c.in_ok-quick-2.ensures.knows) (rw c.number-at-in-loop-at.ensures.number at (c.name_after-ahead-in-loop-at.ensures c.in_ok-quick-2.ensures.inside));
}

pub loop-at-preserved-in-Word-next : goal.loop-at-preserved-in-Word-next
loop-at-preserved-in-Word-next g c =
    let next = rw c.in-Word-next.is at c.in_ok-quick-2.ensures.next in rw c.advance-in-Word-next.ensures record {
      at = at_next c.step_quickly-in-loop-at.new.core c.step_quickly-in-loop-at.new.flow c.step_quickly-in-loop-at.new.memory.words.items (rw c.steps.ensures.steps at c.last_of-last.ensures.ends) c.loop-at.invariant.at
          (more_to c.loop-at.index c.args.first c.last_of-last.result c.args.recorder.now.steps c.loop-at.recorder.steps c.steps-in-loop-at.result c.steps-in-loop-at.ensures.steps
          c.loop-at.invariant.at.count c.loop-at.invariant.at.low c.loop-at-test.true)
          (rw c.number-at-in-loop-at.ensures.number at c.in_ok-quick-2.ensures.inside) c.loop-at.invariant.free (rw (c.pin_unloaded.ensures, c.pin_straight-in-loop-at.ensures) at c.in_ok-quick-2.ensures.leads) (rw (c.pin_unloaded.ensures, c.pin_straight-in-loop-at.ensures) at c.in_ok-quick-2.ensures.goes) c.note_again-in-Word-next.ensures;
      free = next.1;
      unloaded = next.0;
      opened = c.step_quickly-in-loop-at.ensures.opened;
      named = still_named (known_in g.row.PAGES c.loop-at.memory) (known_in g.row.PAGES c.step_quickly-in-loop-at.new.memory) c.args.page.page (c.loop-at.index + 1) (number_of c.name_after-ahead-in-loop-at.result)
          (rw c.in-Word-next.is at c.in_ok-quick-2.ensures.knows) (rw c.number-at-in-loop-at.ensures.number at (c.name_after-ahead-in-loop-at.ensures c.in_ok-quick-2.ensures.inside));
      least = omega (arith, c.loop-at.invariant.least, c.note_again-in-Word-next.ensures.steps);
    }

pub loop-at-preserved-in-WordAfterHiLo-next : goal.loop-at-preserved-in-WordAfterHiLo-next
loop-at-preserved-in-WordAfterHiLo-next g c =
    let next = rw c.in-WordAfterHiLo-next.is at c.in_ok-quick-2.ensures.next in rw c.advance-in-WordAfterHiLo-next.ensures record {
      at = at_next c.step_quickly-in-loop-at.new.core c.step_quickly-in-loop-at.new.flow c.step_quickly-in-loop-at.new.memory.words.items (rw c.steps.ensures.steps at c.last_of-last.ensures.ends) c.loop-at.invariant.at
          (more_to c.loop-at.index c.args.first c.last_of-last.result c.args.recorder.now.steps c.loop-at.recorder.steps c.steps-in-loop-at.result c.steps-in-loop-at.ensures.steps
          c.loop-at.invariant.at.count c.loop-at.invariant.at.low c.loop-at-test.true)
          (rw c.number-at-in-loop-at.ensures.number at c.in_ok-quick-2.ensures.inside) c.loop-at.invariant.free (rw (c.pin_unloaded.ensures, c.pin_straight-in-loop-at.ensures) at c.in_ok-quick-2.ensures.leads) (rw (c.pin_unloaded.ensures, c.pin_straight-in-loop-at.ensures) at c.in_ok-quick-2.ensures.goes) c.note_again-in-WordAfterHiLo-next.ensures;
      free = next.1;
      unloaded = next.0;
      opened = c.step_quickly-in-loop-at.ensures.opened;
      named = still_named (known_in g.row.PAGES c.loop-at.memory) (known_in g.row.PAGES c.step_quickly-in-loop-at.new.memory) c.args.page.page (c.loop-at.index + 1) (number_of c.name_after-ahead-in-loop-at.result)
          (rw c.in-WordAfterHiLo-next.is at c.in_ok-quick-2.ensures.knows) (rw c.number-at-in-loop-at.ensures.number at (c.name_after-ahead-in-loop-at.ensures c.in_ok-quick-2.ensures.inside));
      least = omega (arith, c.loop-at.invariant.least, c.note_again-in-WordAfterHiLo-next.ensures.steps);
    }

pub loop-at-preserved : goal.loop-at-preserved
loop-at-preserved g c =
    let next = rw c.in-WordAfterNone-next.is at c.in_ok-quick-2.ensures.next in rw c.advance-in-WordAfterNone-next.ensures record {
      at = at_next c.step_quickly-in-loop-at.new.core c.step_quickly-in-loop-at.new.flow c.step_quickly-in-loop-at.new.memory.words.items (rw c.steps.ensures.steps at c.last_of-last.ensures.ends) c.loop-at.invariant.at
          (more_to c.loop-at.index c.args.first c.last_of-last.result c.args.recorder.now.steps c.loop-at.recorder.steps c.steps-in-loop-at.result c.steps-in-loop-at.ensures.steps
          c.loop-at.invariant.at.count c.loop-at.invariant.at.low c.loop-at-test.true)
          (rw c.number-at-in-loop-at.ensures.number at c.in_ok-quick-2.ensures.inside) c.loop-at.invariant.free (rw (c.pin_unloaded.ensures, c.pin_straight-in-loop-at.ensures) at c.in_ok-quick-2.ensures.leads) (rw (c.pin_unloaded.ensures, c.pin_straight-in-loop-at.ensures) at c.in_ok-quick-2.ensures.goes) c.note_again-in-WordAfterNone-next.ensures;
      free = next.1;
      unloaded = next.0;
      opened = c.step_quickly-in-loop-at.ensures.opened;
      named = rw c.number-at-in-loop-at.ensures.number at (c.name_after-ahead-in-WordAfterNone-next.ensures c.in_ok-quick-2.ensures.inside);
      least = omega (arith, c.loop-at.invariant.least, c.note_again-in-WordAfterNone-next.ensures.steps);
    }

pub returns-clause-goes : goal.returns-clause-goes
returns-clause-goes g c = rw c.pin_straight-2.ensures c.loop-ahead.invariant.at.goes

pub loop-ahead-smaller : goal.loop-ahead-smaller
loop-ahead-smaller g c =
    let first : c.loop-ahead.recorder.steps ≤ c.match-quick.recorder.steps =
    elim c.match-quick.branch [
      | in-Word w ↦ omega (arith, ap (λ (r : Recording). r.steps) w.recorder-is, w.note_again-in-Word.ensures.steps)
      | in-WordAfterHiLo w ↦ omega (arith, ap (λ (r : Recording). r.steps) w.recorder-is, w.note_again-in-WordAfterHiLo.ensures.steps)
      | in-WordAfterNone w ↦ omega (arith, ap (λ (r : Recording). r.steps) w.recorder-is, w.note_again-in-WordAfterNone.ensures.steps)
    ] in
    let some : c.loop-at.recorder.steps < c.last_of-last.result = omega (arith, c.steps-in-loop-at.ensures.steps) in
    omega (arith, first, some, c.loop-at.invariant.least, c.note_again-in-WordAfterLoad-next.ensures.steps)
