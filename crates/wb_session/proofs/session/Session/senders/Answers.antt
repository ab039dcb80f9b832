-- The senders, one after the other.
use Rattle.std.proofs.Common.{◌≡◌, ◌+◌, ◌-◌, ◌*◌, ◌%◌, ◌≤◌, ◌++◌, ◌∷◌, [], ℕ, List, refl, sym, ap, ◌∙◌, subst, arith, Result, Ok, inr, rules}
use Rattle.refusal.specs.Given.{GivesFault, MayLackMemory}
use Rattle.refusal.specs.declared.fault.Fault.{Fault}
use Rattle.refusal.specs.declared.fault.Fault.TheVariants.{NotFound}
use Rattle.input_log.specs.Limits.{max_position}
use Rattle.r3k_machine.specs.Run.{senders_of, trace_at}
use Rattle.timeline.specs.Console.{part_of}
use Rattle.timeline.specs.TimelineView.{AsksFault}
use Rattle.timeline.specs.History.{History}
use Rattle.timeline.specs.Query.{sent_at}
use Rattle.wb_session.specs.Session.{Held}
use Rattle.wb_session.proofs.Costs.{AskedUpTo, up_to_all, up_to_none, up_to_one, up_to_part}
use Rattle.wb_session.proofs.Listed.{only_memory_sender, part_end, part_more, sender_is, senders_given, senders_within}
use Rattle.wb_session.proofs.session.Session.senders.Goals as goal

pub loop-more-init : goal.loop-more-init
loop-more-init g c = record {
  same = ap (λ (s : Held). s.timeline.history) c.self.view_is;
  still = ap (λ (s : Held). s.position) c.self.view_is;
  so_far = c.new-steps.ensures;
  len = rw c.new-steps.ensures refl;
  asked = subst (λ (s : Held). AskedUpTo g.row.PAGES g.row.SPAN s.position (s.position % g.row.SPAN) 0 s.timeline c.self.inside.timeline) c.self.view_is
      (up_to_none g.row.PAGES g.row.SPAN c.self.inside.position (c.self.inside.position % g.row.SPAN) c.self.inside.timeline);
  recent_states = ap (λ (s : Held). s.timeline.recent_states) c.self.view_is;
}

pub loop-more-preserved : goal.loop-more-preserved
loop-more-preserved g c =
    let pages = g.row.PAGES in
    let span = g.row.SPAN in
    let now = c.args.self.now in
    let h = now.timeline.history in
    let more = c.loop-more.more in
    let before = c.loop-more.self-inside.timeline in
    let at = c.loop-more.invariant.still in
    let all = senders_of c.args.line 0 (trace_at pages h.image h.log now.position) in
    let place = rw c.in-Some.is at c.checked_add.ensures in
    let near = subst (λ (s : Held). s.position ≤ max_position) c.self.view_is c.self.invariant.position in
    let given = subst (λ (k : History). sent_at pages k now.position c.args.line (c.args.from + more) ≡ Ok c.in-Ok.step) c.loop-more.invariant.same
    (subst (λ (n : ℕ). sent_at pages before.history n c.args.line (c.args.from + more) ≡ Ok c.in-Ok.step) at
    (subst (λ (l : ℕ). sent_at pages before.history c.loop-more.self-inside.position l (c.args.from + more) ≡ Ok c.in-Ok.step) c.get-number.ensures.value
    (subst (λ (p : ℕ). sent_at pages before.history c.loop-more.self-inside.position c.get-number.result p ≡ Ok c.in-Ok.step) place.1 c.in-Ok.ensures.step))) in
    record {
      same = c.in-Ok.ensures.same ∙ c.loop-more.invariant.same;
      still = c.loop-more.invariant.still;
      so_far =
          c.push.ensures.items
          ∙ (ap (λ (xs : List ℕ). xs ++ c.in-Ok.step ∷ []) c.loop-more.invariant.so_far
          ∙ sym (part_more all c.args.from more c.in-Ok.step (sender_is pages h now.position c.args.line (c.args.from + more) c.in-Ok.step (omega (arith, c.get-number.ensures.most, c.get-number.ensures.value)) near given)));
      len = omega (arith, c.push.ensures.len, c.loop-more.invariant.len);
      asked =
          let asks = rw at at c.in-Ok.ensures.asks in
          up_to_one pages span now.position now.position (now.position % span) more now.timeline before c.sent_at.new.self (omega (arith, c.self.invariant.sizes.least_span)) (λ _. refl) (omega arith) (omega arith)
          c.loop-more.invariant.asked asks.0 asks.1;
      recent_states = c.in-Ok.ensures.recent_states ∙ c.loop-more.invariant.recent_states;
    }

-- no byte has a place so far on, and none is there after the bytes that were found
pub returns-in_default-clause-senders : goal.returns-in_default-clause-senders
returns-in_default-clause-senders g c =
    let pages = g.row.PAGES in
    let now = c.args.self.now in
    let h = now.timeline.history in
    let all = senders_of c.args.line 0 (trace_at pages h.image h.log now.position) in
    let none = rw c.in_default.is at c.checked_add.ensures in
    let few = senders_within pages h c.args.line now.position in
    let near = subst (λ (s : Held). s.position ≤ max_position) c.self.view_is c.self.invariant.position in
    senders_given pages h now.position c.args.line c.args.from c.args.count (omega (arith, c.get-number.ensures.most, c.get-number.ensures.value)) near
    ∙ ap (λ (xs : List ℕ). Ok xs)
    (part_end all c.args.from c.loop-more.more c.args.count (omega (arith, none, few, near)) (omega (arith, c.loop-more-test.true, c.get-more-end.ensures.value)) ∙ sym c.loop-more.invariant.so_far)

pub returns-in_default-clause-asks : goal.returns-in_default-clause-asks
returns-in_default-clause-asks g c =
    let now = c.args.self.now in
    let none = rw c.in_default.is at c.checked_add.ensures in
    up_to_all g.row.PAGES g.row.SPAN now.position (now.position % g.row.SPAN) c.loop-more.more c.args.count now.timeline c.loop-more.self-inside.timeline c.loop-more.steps
    (omega (arith, none)) (omega (arith, c.loop-more-test.true, c.get-more-end.ensures.value)) c.loop-more.invariant.asked

pub returns-in-Err-NotFound-clause-recent_states : goal.returns-in-Err-NotFound-clause-recent_states
returns-in-Err-NotFound-clause-recent_states g c = c.in-Err-NotFound.ensures.recent_states ∙ c.loop-more.invariant.recent_states

-- all were found
pub returns-clause-senders : goal.returns-clause-senders
returns-clause-senders g c =
    let pages = g.row.PAGES in
    let now = c.args.self.now in
    let h = now.timeline.history in
    let all = senders_of c.args.line 0 (trace_at pages h.image h.log now.position) in
    let near = subst (λ (s : Held). s.position ≤ max_position) c.self.view_is c.self.invariant.position in
    let whole : c.loop-more.more ≡ c.args.count = omega (arith, c.loop-more-test.false, c.loop-more.auto.more-end, c.get-more-end.ensures.value) in
    senders_given pages h now.position c.args.line c.args.from c.args.count (omega (arith, c.get-number.ensures.most, c.get-number.ensures.value)) near
    ∙ ap (λ (xs : List ℕ). Ok xs) (ap (λ (n : ℕ). part_of c.args.from n all) (sym whole) ∙ sym c.loop-more.invariant.so_far)

pub returns-clause-asks : goal.returns-clause-asks
returns-clause-asks g c =
    let now = c.args.self.now in
    up_to_all g.row.PAGES g.row.SPAN now.position (now.position % g.row.SPAN) c.loop-more.more c.args.count now.timeline c.loop-more.self-inside.timeline c.loop-more.steps
    (omega (arith, c.loop-more-test.false, c.get-more-end.ensures.value, c.get-more-end.ensures.least)) (omega (arith, c.loop-more.auto.more-end, c.get-more-end.ensures.value)) c.loop-more.invariant.asked

pub returns-in-Err-NotFound-clause-asks : goal.returns-in-Err-NotFound-clause-asks
returns-in-Err-NotFound-clause-asks g c =
    let pages = g.row.PAGES in
    let span = g.row.SPAN in
    let now = c.args.self.now in
    let before = c.loop-more.self-inside.timeline in
    let at = c.loop-more.invariant.still in
    let asks = subst (λ (f : Fault). AsksFault pages span now.position 0 before c.sent_at.new.self f) c.in-Err-NotFound.field-0-is (rw at at c.in-Err-NotFound.ensures.asks) in
    up_to_all {A = List ℕ} pages span now.position (now.position % span) (c.loop-more.more + 1) c.args.count now.timeline c.sent_at.new.self c.loop-more.steps.items
    (omega arith) (omega (arith, c.loop-more-test.true, c.get-more-end.ensures.value))
    (up_to_one pages span now.position now.position (now.position % span) c.loop-more.more now.timeline before c.sent_at.new.self
    (omega (arith, c.self.invariant.sizes.least_span)) (λ _. refl) (omega arith) (omega arith) c.loop-more.invariant.asked asks.0 asks.1)

-- memory was refused
pub returns-in-Err : goal.returns-in-Err
returns-in-Err g c =
    let pages = g.row.PAGES in
    let span = g.row.SPAN in
    let now = c.args.self.now in
    let h = now.timeline.history in
    let more = c.loop-more.more in
    let before = c.loop-more.self-inside.timeline in
    let at = c.loop-more.invariant.still in
    let fault = c.in-Err.fault in
    let place = rw c.in-Some.is at c.checked_add.ensures in
    let near = subst (λ (s : Held). s.position ≤ max_position) c.self.view_is c.self.invariant.position in
    let low : c.args.line ≤ 3 = omega (arith, c.get-number.ensures.most, c.get-number.ensures.value) in
    let given = subst (λ (k : History). GivesFault (sent_at pages k now.position c.args.line (c.args.from + more)) fault) c.loop-more.invariant.same
    (subst (λ (n : ℕ). GivesFault (sent_at pages before.history n c.args.line (c.args.from + more)) fault) at
    (subst (λ (l : ℕ). GivesFault (sent_at pages before.history c.loop-more.self-inside.position l (c.args.from + more)) fault) c.get-number.ensures.value
    (subst (λ (p : ℕ). GivesFault (sent_at pages before.history c.loop-more.self-inside.position c.get-number.result p) fault) place.1 c.in-Err.ensures.step))) in
    let other : fault ≡ NotFound → ⊥ = search rules in
    let memory = only_memory_sender pages h now.position c.args.line (c.args.from + more) fault low near other given in
    record {
      senders = inr (memory, subst (λ (r : Result (List ℕ) Fault). MayLackMemory r) (sym (senders_given pages h now.position c.args.line c.args.from c.args.count low near)) tt);
      same = search rules;
      asks = subst (λ (f : Fault). AsksFault pages span now.position ((c.args.count - 1) * (now.position % span)) now.timeline c.sent_at.new.self f) (sym memory)
          (up_to_part pages span now.position now.position (now.position % span) more c.args.count now.timeline before c.sent_at.new.self
          (omega (arith, c.self.invariant.sizes.least_span)) (λ _. refl) (omega arith) (omega arith) (omega (arith, c.loop-more-test.true, c.get-more-end.ensures.value)) c.loop-more.invariant.asked
          (subst (λ (f : Fault). AsksFault pages span now.position 0 before c.sent_at.new.self f) memory (rw at at c.in-Err.ensures.asks)));
      recent_states = c.in-Err.ensures.recent_states ∙ c.loop-more.invariant.recent_states;
    }
