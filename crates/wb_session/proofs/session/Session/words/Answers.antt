-- The words, one after the other.
use Rattle.std.proofs.Common.{◌≡◌, ◌+◌, ◌-◌, ◌*◌, ◌%◌, ◌++◌, Contains, rules, ◌∷◌, [], ◌≤◌, ℕ, List, slice_index, inr, refl, sym, ap, ◌∙◌, subst, arith, Result, Err}
use Rattle.std.proofs.Math.Path.{ap₂}
use Rattle.std.proofs.lemmas.List.{map-append}
use Rattle.std.specs.Result.{is_ok}
use Rattle.refusal.specs.Given.{GivesFault}
use Rattle.refusal.specs.declared.fault.Fault.{Fault}
use Rattle.refusal.specs.declared.fault.Fault.TheVariants.{Memory}
use Rattle.input_log.specs.Limits.{max_position}
use Rattle.timeline.specs.TimelineView.{AsksFault}
use Rattle.r3k_machine.specs.Run.{state_at}
use Rattle.timeline.specs.History.{History}
use Rattle.timeline.specs.Query.{word_at}
use Rattle.wb_session.specs.Memory.{place_after}
use Rattle.wb_session.proofs.Costs.{AskedSo, asked_none, asked_one, asked_part, left_refused}
use Rattle.wb_session.specs.Cost.{KeepsStateOnce}
use Rattle.wb_session.specs.Session.{Held}
use Rattle.wb_session.proofs.Places.{all_places, only_memory, place_among, places_from-more, places_from-zero, starts_even, value_is}
use Rattle.wb_session.proofs.session.Session.words.Goals as goal

pub loop-word-init : goal.loop-word-init
loop-word-init g c = record {
  same = ap (λ (s : Held). s.timeline.history) c.self.view_is;
  still = ap (λ (s : Held). s.position) c.self.view_is;
  so_far = ([], places_from-zero g.row.PAGES c.args.address, c.new-words.ensures);
  len = rw c.new-words.ensures refl;
  asked = subst (λ (s : Held). AskedSo g.row.PAGES g.row.SPAN s.position 0 s.timeline c.self.inside.timeline) c.self.view_is
      (asked_none g.row.PAGES g.row.SPAN c.self.inside.position c.self.inside.timeline);
}

pub loop-word-preserved : goal.loop-word-preserved
loop-word-preserved g c =
    let pages = g.row.PAGES in
    let span = g.row.SPAN in
    let now = c.args.self.now in
    let history = now.timeline.history in
    let position = ap (λ (s : Held). s.position) c.self.view_is in
    let word = c.loop-word.word in
    let before = c.loop-word.self-inside.timeline in
    let all = (c.in_ok-_places.ensures {u = tt}).places in
    let even = starts_even pages c.args.address c.args.count c.in_ok-_places._places.items all in
    let placed = place_among pages c.args.address word c.args.count c.in_ok-_places._places.items
    (all_places pages c.args.address c.args.count c.in_ok-_places._places.items even all) (omega (arith, c.loop-word-test.true, c.get-word-end.ensures.value)) in
    let given = ap₂ (λ (h : History) (n : ℕ). word_at pages h n (c.args.address + 4 * word)) (sym c.loop-word.invariant.same) (sym position)
    ∙ (ap (λ (a : ℕ). word_at pages before.history c.self.inside.position (a + 4 * word)) (sym c.get.ensures.value) ∙ c.in-Ok.ensures.word) in
    let value = value_is pages history now.position (c.args.address + 4 * word) placed.0 c.in-Ok.value
    (subst (λ (s : Held). s.position ≤ max_position) c.self.view_is c.self.invariant.position) (omega (arith, even)) placed.1 given in
    let words = slice_index (state_at pages history.image history.log now.position).words in
    let so_far = c.loop-word.invariant.so_far in
    let asked = subst (λ (n : ℕ). AskedSo pages span n word now.timeline before) (sym position) c.loop-word.invariant.asked in record {
      same = c.in-Ok.ensures.same ∙ c.loop-word.invariant.same;
      still = c.loop-word.invariant.still;
      so_far = (
        so_far.0 ++ placed.0 ∷ [],
        places_from-more pages c.args.address word ∙ ap₂ place_after so_far.1 placed.1,
        c.push.ensures.items ∙ (ap₂ (λ (xs : List ℕ) (x : ℕ). xs ++ x ∷ []) so_far.2 value ∙ sym (map-append words so_far.0 (placed.0 ∷ []))),
      );
      len = omega (arith, c.push.ensures.len, c.loop-word.invariant.len);
      asked = subst (λ (n : ℕ). AskedSo pages span n (word + 1) now.timeline c.word_at.new.self) position
          (asked_one pages span c.self.inside.position word now.timeline before c.word_at.new.self c.in-Ok.value (omega (arith, c.self.invariant.sizes.least_span)) asked c.in-Ok.ensures.asks c.in-Ok.ensures.keeps_state);
    }

pub returns-in-Err : goal.returns-in-Err
returns-in-Err g c =
    let pages = g.row.PAGES in
    let span = g.row.SPAN in
    let now = c.args.self.now in
    let history = now.timeline.history in
    let position = ap (λ (s : Held). s.position) c.self.view_is in
    let word = c.loop-word.word in
    let all = (c.in_ok-_places.ensures {u = tt}).places in
    let even = starts_even pages c.args.address c.args.count c.in_ok-_places._places.items all in
    let placed = place_among pages c.args.address word c.args.count c.in_ok-_places._places.items
    (all_places pages c.args.address c.args.count c.in_ok-_places._places.items even all) (omega (arith, c.loop-word-test.true, c.get-word-end.ensures.value)) in
    let asked = ap₂ (λ (h : History) (n : ℕ). word_at pages h n (c.args.address + 4 * word)) (sym c.loop-word.invariant.same) (sym position)
    ∙ ap (λ (a : ℕ). word_at pages c.loop-word.self-inside.timeline.history c.self.inside.position (a + 4 * word)) (sym c.get.ensures.value) in
    let given = subst (λ (q : Result ℕ Fault). GivesFault q c.in-Err.fault) (sym asked) c.in-Err.ensures.word in
    let memory = only_memory pages history now.position (c.args.address + 4 * word) placed.0 c.in-Err.fault
    (subst (λ (s : Held). s.position ≤ max_position) c.self.view_is c.self.invariant.position) (omega (arith, even)) placed.1 given in
    let before = c.loop-word.self-inside.timeline in
    let after = c.word_at.new.self in
    let so = subst (λ (n : ℕ). AskedSo pages span n word now.timeline before) (sym position) c.loop-word.invariant.asked in
    let cost = asked_part pages span c.self.inside.position word c.args.count now.timeline before after (omega (arith, c.self.invariant.sizes.least_span)) (omega (arith, c.loop-word-test.true, c.get-word-end.ensures.value)) so
    (subst (λ (f : Fault). AsksFault pages span c.self.inside.position 0 before after f) memory c.in-Err.ensures.asks) in record {
      words = inr (ap Err memory, ap (λ (r : Result (List ℕ) Fault). is_ok r) all);
      same = search rules;
      asks = subst (λ (f : Fault). AsksFault pages span now.position ((c.args.count - 1) * (now.position % span)) now.timeline after f) (sym memory)
          (subst (λ (n : ℕ). AsksFault pages span n ((c.args.count - 1) * (n % span)) now.timeline after Memory) position cost);
      free = λ there. (let kept = so.free (subst (λ (n : ℕ). Contains now.timeline.recent_states n) (sym position) there) in c.in-Err.ensures.keeps_state.free kept.1 ∙ kept.0);
      keeps_state =
          let from : ℕ = c.self.inside.position in
          let steps : Contains now.timeline.recent_states from → after.steps ≡ now.timeline.steps = (λ there. let kept = so.free there in c.in-Err.ensures.keeps_state.free kept.1 ∙ kept.0) in
          subst (λ (n : ℕ). KeepsStateOnce {A = Unit {0}} span n now.timeline after (Err Memory)) position
          (left_refused span from word now.timeline before after so.up_to.first so.left c.in-Err.ensures.keeps_state.refused steps);
    }
