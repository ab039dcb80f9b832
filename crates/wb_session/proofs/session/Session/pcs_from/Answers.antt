-- The PCs, one after the other; the last one was asked for first.
use Rattle.std.proofs.Common.{◌≡◌, ◌+◌, ◌-◌, ◌*◌, ◌<◌, ◌≤◌, ◌++◌, ◌∷◌, [], ℕ, List, refl, sym, ap, ◌∙◌, subst, arith, Result, Ok, inr}
use Rattle.std.proofs.Math.Nat.{add-mul, mod-lt, mul-le-mul_right}
use Rattle.std.proofs.Math.Path.{ap₂}
use Rattle.refusal.specs.Given.{GivesFault, MayLackMemory}
use Rattle.refusal.specs.declared.fault.Fault.{Fault}
use Rattle.input_log.specs.Limits.{max_position}
use Rattle.r3k_machine.specs.Core.{Core}
use Rattle.r3k_machine.specs.Run.{state_at}
use Rattle.timeline.specs.TimelineView.{AsksFault}
use Rattle.timeline.specs.History.{History}
use Rattle.timeline.specs.Query.{core_at}
use Rattle.wb_text.specs.declared.lists.Timed.{Timed}
use Rattle.wb_session.specs.Cost.{Leaves, LeavesAlong}
use Rattle.wb_session.specs.Lists.{pc_of, pcs_from, positions_from, states_apart}
use Rattle.wb_session.specs.Session.{Held}
use Rattle.wb_session.proofs.Costs.{AskedUpTo, up_to_none, up_to_one, up_to_part}
use Rattle.wb_session.proofs.Left.{along_front, along_one, leaves_one}
use Rattle.wb_session.proofs.Listed.{only_memory_core, pc_is, pcs_given, pcs_more, pcs_zero, positions_front, positions_more, positions_zero}
use Rattle.wb_session.proofs.session.Session.pcs_from.Goals as goal

-- a position with its PC
timed : (pages : ℕ) (h : History) (position time pc : ℕ) → time ≡ position → pc ≡ (state_at pages h.image h.log position).core.pc
    → record { time = time; word = pc } ≡ pc_of pages h position
timed pages h position time pc same is = ap₂ (λ (time word : ℕ). let t : Timed = record { time = time; word = word } in t) same is

-- a step on the way
way_on : (k distance : ℕ) → (k + 1) * distance ≡ k * distance + distance
way_on k distance = add-mul k 1 distance ∙ ap (λ (n : ℕ). k * distance + n) (let e : 1 * distance ≡ distance = omega arith in e)

pub loop-init : goal.loop-init
loop-init g c =
    let pages = g.row.PAGES in
    let span = g.row.SPAN in
    let now = c.args.self.now in
    let last = c.in-Some.last in
    let still = ap (λ (s : Held). s.position) c.self.view_is in
    let some : 0 < span = omega (arith, c.self.invariant.sizes.least_span) in
    record {
      same = c.in-Ok.ensures.same ∙ ap (λ (s : Held). s.timeline.history) c.self.view_is;
      still = still;
      at = omega (arith, still);
      so_far = c.new-pcs.ensures ∙ sym (pcs_zero pages now.timeline.history now.position c.args.distance);
      len = rw c.new-pcs.ensures refl;
      asked = subst (λ (s : Held). AskedUpTo pages span last span 1 s.timeline c.core_at.new.self) c.self.view_is
          (up_to_one pages span last last span 0 c.self.inside.timeline c.self.inside.timeline c.core_at.new.self some (λ _. refl) (omega arith)
          (let small = mod-lt last some in omega (arith, small)) (up_to_none pages span last span c.self.inside.timeline) c.in-Ok.ensures.asks.0 c.in-Ok.ensures.asks.1);
      left =
          subst (λ (positions : List ℕ). LeavesAlong span (last ∷ positions) now.timeline.recent_states c.core_at.new.self.recent_states) (sym (positions_zero now.position c.args.distance))
          (along_one span [] last now.timeline.recent_states c.self.inside.timeline.recent_states c.core_at.new.self.recent_states (ap (λ (s : Held). s.timeline.recent_states) c.self.view_is)
          (leaves_one span last c.self.inside.timeline c.core_at.new.self c.in-Ok.core c.in-Ok.ensures.keeps_state));
    }

-- where a position on the way lies
on_the_way : (position k later distance last : ℕ) → last ≡ position + later * distance → k < later → position + k * distance + distance ≤ last
on_the_way position k later distance last is below =
    let most : (k + 1) * distance ≤ later * distance = mul-le-mul_right distance (let e : k + 1 ≤ later = omega (arith, below) in e) in
    omega (arith, is, most, way_on k distance)

-- the same way, by what the call was given
same_way : (p q n m d e : ℕ) → p ≡ q → n ≡ m → d ≡ e → p + (n - 1) * d ≡ q + (m - 1) * e
same_way p q n m d e from later distance = ap₂ (λ (a b : ℕ). a + b) from (ap₂ (λ (n d : ℕ). (n - 1) * d) later distance)

pub returns-in-Err-clause-leaves : goal.returns-in-Err-clause-leaves
returns-in-Err-clause-leaves g c = (0, c.in-Err.ensures.keeps_state.refused ∙ ap (λ (s : Held). s.timeline.recent_states) c.self.view_is)

pub returns-in-Err-core_at-clause-pcs : goal.returns-in-Err-core_at-clause-pcs
returns-in-Err-core_at-clause-pcs g c =
    let pages = g.row.PAGES in
    let now = c.args.self.now in
    let h = now.timeline.history in
    let k = c.loop.counter in
    let d = c.args.distance in
    let last = c.in-Some.last in
    let here = c.loop.position in
    let fault = c.in-Err-core_at.fault in
    let spot = c.in-Some.ensures {u = tt} in
    let lies : last ≡ now.position + (c.args.count - 1) * d = spot.1 ∙ same_way _ _ _ _ _ _ (ap (λ (s : Held). s.position) c.self.view_is) c.get-later.ensures.value c.get.ensures.value in
    let near_last : last ≤ max_position = omega (arith, spot.0, spot.1) in
    let below : here + d ≤ last =
    (let way = on_the_way now.position k (c.args.count - 1) d last lies (omega (arith, c.loop-test.true, c.get-later.ensures.value)) in omega (arith, way, c.loop.invariant.at)) in
    let given = subst (λ (k : History). GivesFault (core_at pages k here) fault) c.loop.invariant.same c.in-Err-core_at.ensures.core in
    inr (
      only_memory_core pages h here fault (omega (arith, below, near_last)) given,
      subst (λ (r : Result (List Timed) Fault). MayLackMemory r) (sym (pcs_given pages h now.position d c.args.count (omega (arith, lies, near_last)))) tt,
    )

pub returns-in-Err-core_at-clause-asks : goal.returns-in-Err-core_at-clause-asks
returns-in-Err-core_at-clause-asks g c =
    let pages = g.row.PAGES in
    let span = g.row.SPAN in
    let now = c.args.self.now in
    let h = now.timeline.history in
    let k = c.loop.counter in
    let d = c.args.distance in
    let last = c.in-Some.last in
    let here = c.loop.position in
    let before = c.loop.self-inside.timeline in
    let new = c.core_at-in-loop.new.self in
    let fault = c.in-Err-core_at.fault in
    let some : 0 < span = omega (arith, c.self.invariant.sizes.least_span) in
    let spot = c.in-Some.ensures {u = tt} in
    let lies : last ≡ now.position + (c.args.count - 1) * d = spot.1 ∙ same_way _ _ _ _ _ _ (ap (λ (s : Held). s.position) c.self.view_is) c.get-later.ensures.value c.get.ensures.value in
    let near_last : last ≤ max_position = omega (arith, spot.0, spot.1) in
    let below : here + d ≤ last =
    (let way = on_the_way now.position k (c.args.count - 1) d last lies (omega (arith, c.loop-test.true, c.get-later.ensures.value)) in omega (arith, way, c.loop.invariant.at)) in
    let given = subst (λ (k : History). GivesFault (core_at pages k here) fault) c.loop.invariant.same c.in-Err-core_at.ensures.core in
    let memory = only_memory_core pages h here fault (omega (arith, below, near_last)) given in
    subst (λ (n : ℕ). AsksFault pages span n ((c.args.count - 1) * span) now.timeline new fault) lies
    (subst (λ (f : Fault). AsksFault pages span last ((c.args.count - 1) * span) now.timeline new f) (sym memory)
    (up_to_part pages span last here span (k + 1) c.args.count now.timeline before new some (λ none. absurd (omega (arith, none))) (omega (arith, below))
    (let small = mod-lt here some in omega (arith, small)) (omega (arith, c.loop-test.true, c.get-later.ensures.value)) c.loop.invariant.asked
    (subst (λ (f : Fault). AsksFault pages span here 0 before new f) memory c.in-Err-core_at.ensures.asks)))

pub returns-in-Err-core_at-clause-leaves : goal.returns-in-Err-core_at-clause-leaves
returns-in-Err-core_at-clause-leaves g c =
    let now = c.args.self.now in
    let k = c.loop.counter in
    let d = c.args.distance in
    let last = c.in-Some.last in
    let spot = c.in-Some.ensures {u = tt} in
    let lies : last ≡ now.position + (c.args.count - 1) * d = spot.1 ∙ same_way _ _ _ _ _ _ (ap (λ (s : Held). s.position) c.self.view_is) c.get-later.ensures.value c.get.ensures.value in
    let front = positions_front now.position d k (c.args.count - 1 - k) in
    let whole : k + (c.args.count - 1 - k) ≡ c.args.count - 1 = omega (arith, c.loop-test.true, c.get-later.ensures.value) in
    along_front g.row.SPAN (last ∷ positions_from now.position d k) front.0 (states_apart now.position d c.args.count) now.timeline.recent_states
    c.loop.self-inside.timeline.recent_states c.core_at-in-loop.new.self.recent_states c.in-Err-core_at.fault
    (ap₂ (λ (p : ℕ) (ps : List ℕ). p ∷ ps) lies (front.1 ∙ ap (positions_from now.position d) whole)) c.in-Err-core_at.ensures.keeps_state.refused c.loop.invariant.left

pub overflow_add-position : goal.overflow_add-position
overflow_add-position g c =
    let now = c.args.self.now in
    let k = c.loop.counter in
    let d = c.args.distance in
    let last = c.in-Some.last in
    let spot = c.in-Some.ensures {u = tt} in
    let lies : last ≡ now.position + (c.args.count - 1) * d = spot.1 ∙ same_way _ _ _ _ _ _ (ap (λ (s : Held). s.position) c.self.view_is) c.get-later.ensures.value c.get.ensures.value in
    let near_last : last ≤ max_position = omega (arith, spot.0, spot.1) in
    let way = on_the_way now.position k (c.args.count - 1) d last lies (omega (arith, c.loop-test.true, c.get-later.ensures.value)) in
    record { fits = omega (arith, way, c.loop.invariant.at, near_last, c.get-position.ensures.value) }

pub loop-preserved : goal.loop-preserved
loop-preserved g c =
    let pages = g.row.PAGES in
    let span = g.row.SPAN in
    let now = c.args.self.now in
    let h = now.timeline.history in
    let k = c.loop.counter in
    let d = c.args.distance in
    let last = c.in-Some.last in
    let here = c.loop.position in
    let before = c.loop.self-inside.timeline in
    let some : 0 < span = omega (arith, c.self.invariant.sizes.least_span) in
    let spot = c.in-Some.ensures {u = tt} in
    let lies : last ≡ now.position + (c.args.count - 1) * d = spot.1 ∙ same_way _ _ _ _ _ _ (ap (λ (s : Held). s.position) c.self.view_is) c.get-later.ensures.value c.get.ensures.value in
    let near_last : last ≤ max_position = omega (arith, spot.0, spot.1) in
    let below : here + d ≤ last =
    (let way = on_the_way now.position k (c.args.count - 1) d last lies (omega (arith, c.loop-test.true, c.get-later.ensures.value)) in omega (arith, way, c.loop.invariant.at)) in
    let given = subst (λ (k : History). core_at pages k here ≡ Ok c.in-Ok-core_at.core.value) c.loop.invariant.same c.in-Ok-core_at.ensures.core in
    let pc = c.pc.ensures ∙ (ap (λ (x : Core). x.pc) c.deref-in-Ok-core_at.ensures
    ∙ (sym (pc_is pages h here c.in-Ok-core_at.core.value (omega (arith, below, near_last)) given)
    ∙ ap (λ (n : ℕ). (state_at pages h.image h.log n).core.pc) c.loop.invariant.at)) in
    record {
      same = c.in-Ok-core_at.ensures.same ∙ c.loop.invariant.same;
      still = c.loop.invariant.still;
      at = omega (arith, c.loop.invariant.at, c.get-position.ensures.value, way_on k d);
      so_far =
          c.push.ensures.items
          ∙ (ap₂ (λ (xs : List Timed) (x : Timed). xs ++ x ∷ []) c.loop.invariant.so_far (timed pages h (now.position + k * d) here c.pc.result c.loop.invariant.at pc)
          ∙ sym (pcs_more pages h now.position d k));
      len = omega (arith, c.push.ensures.len, c.loop.invariant.len);
      asked =
          up_to_one pages span last here span (k + 1) now.timeline before c.core_at-in-loop.new.self some (λ none. absurd (omega (arith, none))) (omega (arith, below))
          (let small = mod-lt here some in omega (arith, small)) c.loop.invariant.asked c.in-Ok-core_at.ensures.asks.0 c.in-Ok-core_at.ensures.asks.1;
      left =
          subst (λ (positions : List ℕ). LeavesAlong span (last ∷ positions) now.timeline.recent_states c.core_at-in-loop.new.self.recent_states) (sym (positions_more now.position d k))
          (along_one span (last ∷ positions_from now.position d k) (now.position + k * d) now.timeline.recent_states before.recent_states c.core_at-in-loop.new.self.recent_states c.loop.invariant.left
          (subst (λ (n : ℕ). Leaves span n before.recent_states c.core_at-in-loop.new.self.recent_states) c.loop.invariant.at
          (leaves_one span here before c.core_at-in-loop.new.self c.in-Ok-core_at.core c.in-Ok-core_at.ensures.keeps_state)));
    }

pub returns-clause-pcs : goal.returns-clause-pcs
returns-clause-pcs g c =
    let pages = g.row.PAGES in
    let now = c.args.self.now in
    let h = now.timeline.history in
    let k = c.loop.counter in
    let d = c.args.distance in
    let last = c.in-Some.last in
    let spot = c.in-Some.ensures {u = tt} in
    let lies : last ≡ now.position + (c.args.count - 1) * d = spot.1 ∙ same_way _ _ _ _ _ _ (ap (λ (s : Held). s.position) c.self.view_is) c.get-later.ensures.value c.get.ensures.value in
    let near_last : last ≤ max_position = omega (arith, spot.0, spot.1) in
    let whole : k + 1 ≡ c.args.count = omega (arith, c.loop.auto.counter-end, c.loop-test.false, c.get-later.ensures.value, c.get-later.ensures.least) in
    let last_is : last ≡ now.position + k * d = lies ∙ ap (λ (n : ℕ). now.position + n * d) (let e : c.args.count - 1 ≡ k = omega (arith, whole) in e) in
    let given = subst (λ (s : Held). core_at pages s.timeline.history last ≡ Ok c.in-Ok.core.value) c.self.view_is c.in-Ok.ensures.core in
    let pc = c.pc-last_pc.ensures ∙ (ap (λ (x : Core). x.pc) c.deref.ensures
    ∙ (sym (pc_is pages h last c.in-Ok.core.value near_last given) ∙ ap (λ (n : ℕ). (state_at pages h.image h.log n).core.pc) last_is)) in
    pcs_given pages h now.position d c.args.count (omega (arith, lies, near_last))
    ∙ ap (λ (xs : List Timed). let r : Result (List Timed) Fault = Ok xs in r)
    (sym (c.push-2.ensures.items
    ∙ (ap₂ (λ (xs : List Timed) (x : Timed). xs ++ x ∷ []) c.loop.invariant.so_far (timed pages h (now.position + k * d) last c.pc-last_pc.result last_is pc)
    ∙ (sym (pcs_more pages h now.position d k) ∙ ap (pcs_from pages h now.position d) whole))))

pub returns-clause-leaves : goal.returns-clause-leaves
returns-clause-leaves g c =
    let now = c.args.self.now in
    let k = c.loop.counter in
    let d = c.args.distance in
    let last = c.in-Some.last in
    let spot = c.in-Some.ensures {u = tt} in
    let lies : last ≡ now.position + (c.args.count - 1) * d = spot.1 ∙ same_way _ _ _ _ _ _ (ap (λ (s : Held). s.position) c.self.view_is) c.get-later.ensures.value c.get.ensures.value in
    let whole : k ≡ c.args.count - 1 = omega (arith, c.loop.auto.counter-end, c.loop-test.false, c.get-later.ensures.value, c.get-later.ensures.least) in
    subst (λ (positions : List ℕ). LeavesAlong g.row.SPAN positions now.timeline.recent_states c.loop.self-inside.timeline.recent_states)
    (ap₂ (λ (p : ℕ) (ps : List ℕ). p ∷ ps) lies (ap (positions_from now.position d) whole)) c.loop.invariant.left
