-- The stores, one before the other.
use Rattle.std.proofs.Common.{◌≡◌, ◌+◌, ◌-◌, ◌*◌, ◌%◌, ◌<◌, ◌≤◌, ◌++◌, ◌∷◌, [], ℕ, true, not, List, append_assoc, rules, refl, sym, ap, ◌∙◌, subst, arith, Result, Ok, inr}
use Rattle.std.proofs.Math.Nat.{mod-lt}
use Rattle.std.proofs.Math.Path.{ap₂}
use Rattle.std.proofs.lemmas.List.{append-nil}
use Rattle.std.specs.Option.{is_some}
use Rattle.refusal.specs.Given.{GivesFault, MayLackMemory}
use Rattle.refusal.specs.declared.fault.Fault.{Fault}
use Rattle.input_log.specs.Limits.{max_position}
use Rattle.r3k_word.specs.Layout.{place_of_word}
use Rattle.timeline.specs.TimelineView.{AsksFault}
use Rattle.timeline.specs.History.{History}
use Rattle.timeline.specs.Query.{word_at, writer_at}
use Rattle.timeline.specs.declared.writer.Writer.{Writer}
use Rattle.timeline.specs.declared.writer.Writer.TheVariants.{Step, Image, Never}
use Rattle.wb_text.specs.declared.lists.Timed.{Timed}
use Rattle.wb_session.specs.Lists.{stores_at, stores_before}
use Rattle.wb_session.specs.Session.{Held}
use Rattle.wb_session.proofs.Costs.{AskedUpTo, up_to_all, up_to_none, up_to_one, up_to_part}
use Rattle.wb_session.proofs.Left.{leaves_one, store_one, stores_all, stores_front}
use Rattle.wb_session.proofs.Listed.{before_position, by_image, by_nobody, only_memory_writer, some_place, stored_by, stores_given, stores_more, stores_none, stores_zero}
use Rattle.wb_session.proofs.Places.{only_memory, value_is}
use Rattle.wb_session.proofs.session.Session.last_stores.Goals as goal

pub loop-init : goal.loop-init
loop-init g c =
    let pages = g.row.PAGES in
    let span = g.row.SPAN in
    let now = c.args.self.now in
    let still = ap (λ (s : Held). s.position) c.self.view_is in
    record {
      same = ap (λ (s : Held). s.timeline.history) c.self.view_is;
      still = still;
      within = omega (arith, still);
      first = λ _. still;
      so_far = λ place _.
          ap (λ (xs : List Timed). xs ++ stores_before pages now.timeline.history c.args.address place (c.args.count - 0) c.self.inside.position) c.new-stores.ensures
          ∙ ap₂ (λ (n p : ℕ). stores_before pages now.timeline.history c.args.address place n p) (let e : c.args.count - 0 ≡ c.args.count = omega arith in e) still;
      len = rw c.new-stores.ensures refl;
      asked = subst (λ (s : Held). AskedUpTo pages span s.position span 0 s.timeline c.self.inside.timeline) c.self.view_is
          (up_to_none pages span c.self.inside.position span c.self.inside.timeline);
      left = rw c.new-stores.ensures (ap (λ (s : Held). s.timeline.recent_states) c.self.view_is);
    }

pub returns-in-Ok-Image : goal.returns-in-Ok-Image
returns-in-Ok-Image g c =
    let pages = g.row.PAGES in
    let span = g.row.SPAN in
    let now = c.args.self.now in
    let h = now.timeline.history in
    let address = c.args.address in
    let position = now.position in
    let k = c.loop.counter in
    let here = c.loop.before in
    let before = c.loop.self-inside.timeline in
    let some : 0 < span = omega (arith, c.self.invariant.sizes.least_span) in
    let even : address % 4 ≡ 0 = omega (arith, c.if-address-ne0.false, c.get-address.ensures.value) in
    let there : is_some (place_of_word pages address) ≡ true =
    ap (λ (a : ℕ). is_some (place_of_word pages a)) (sym c.get-address.ensures.value)
    ∙ (ap is_some (sym c.place_of.ensures) ∙ (c.is_none.ensures ∙ ap not c.if-is_none.false)) in
    let placed = some_place (place_of_word pages address) there in
    let far = subst (λ (s : Held). s.position ≤ max_position) c.self.view_is c.self.invariant.position in
    let near : here ≤ max_position = omega (arith, c.loop.invariant.within, far) in
    let first = λ (none : 2 * k ≡ 0). c.loop.invariant.first (omega (arith, none)) in
    let small : here % span ≤ span = (let less = mod-lt here some in omega (arith, less)) in
    let wrote : writer_at pages h here address ≡ Ok Image =
    subst (λ (w : Writer). writer_at pages h here address ≡ Ok w) c.in-Ok-Image.field-0-is
    (subst (λ (k : History). writer_at pages k here address ≡ Ok c.in-Ok-Image.field-0) c.loop.invariant.same
    (subst (λ (a : ℕ). writer_at pages before.history here a ≡ Ok c.in-Ok-Image.field-0) c.get-address.ensures.value c.in-Ok-Image.ensures.writer)) in
    let none = by_image pages h here address near even there wrote in
    let all : stores_at pages h position address c.args.count ≡ Ok c.loop.stores.items =
    stores_given pages h position address placed.0 c.args.count far even placed.1
    ∙ ap (λ (xs : List Timed). let r : Result (List Timed) Fault = Ok xs in r)
    (sym (c.loop.invariant.so_far placed.0 placed.1)
    ∙ (ap (λ (xs : List Timed). c.loop.stores.items ++ xs) (stores_none pages h address placed.0 (c.args.count - k) here none) ∙ append-nil c.loop.stores.items)) in
    record {
      stores = all;
      same = search rules;
      leaves =
          stores_all span c.loop.stores.items (stores_at pages h position address c.args.count) now.timeline.recent_states before.recent_states c.writer_at.new.self.recent_states all
          c.in-Ok-Image.ensures.recent_states c.loop.invariant.left;
      asks =
          up_to_all {A = List Timed} pages span position span (2 * k + 1) (2 * c.args.count) now.timeline c.writer_at.new.self c.loop.stores.items (omega arith)
          (omega (arith, c.loop-test.true, c.get-end.ensures.value))
          (up_to_one pages span position here span (2 * k) now.timeline before c.writer_at.new.self some first c.loop.invariant.within small
          c.loop.invariant.asked c.in-Ok-Image.ensures.asks.0 c.in-Ok-Image.ensures.asks.1);
    }

pub returns-in-Ok-Never : goal.returns-in-Ok-Never
returns-in-Ok-Never g c =
    let pages = g.row.PAGES in
    let span = g.row.SPAN in
    let now = c.args.self.now in
    let h = now.timeline.history in
    let address = c.args.address in
    let position = now.position in
    let k = c.loop.counter in
    let here = c.loop.before in
    let before = c.loop.self-inside.timeline in
    let some : 0 < span = omega (arith, c.self.invariant.sizes.least_span) in
    let even : address % 4 ≡ 0 = omega (arith, c.if-address-ne0.false, c.get-address.ensures.value) in
    let there : is_some (place_of_word pages address) ≡ true =
    ap (λ (a : ℕ). is_some (place_of_word pages a)) (sym c.get-address.ensures.value)
    ∙ (ap is_some (sym c.place_of.ensures) ∙ (c.is_none.ensures ∙ ap not c.if-is_none.false)) in
    let placed = some_place (place_of_word pages address) there in
    let far = subst (λ (s : Held). s.position ≤ max_position) c.self.view_is c.self.invariant.position in
    let near : here ≤ max_position = omega (arith, c.loop.invariant.within, far) in
    let first = λ (none : 2 * k ≡ 0). c.loop.invariant.first (omega (arith, none)) in
    let small : here % span ≤ span = (let less = mod-lt here some in omega (arith, less)) in
    let wrote : writer_at pages h here address ≡ Ok Never =
    subst (λ (w : Writer). writer_at pages h here address ≡ Ok w) c.in-Ok-Never.field-0-is
    (subst (λ (k : History). writer_at pages k here address ≡ Ok c.in-Ok-Never.field-0) c.loop.invariant.same
    (subst (λ (a : ℕ). writer_at pages before.history here a ≡ Ok c.in-Ok-Never.field-0) c.get-address.ensures.value c.in-Ok-Never.ensures.writer)) in
    let none = by_nobody pages h here address near even there wrote in
    let all : stores_at pages h position address c.args.count ≡ Ok c.loop.stores.items =
    stores_given pages h position address placed.0 c.args.count far even placed.1
    ∙ ap (λ (xs : List Timed). let r : Result (List Timed) Fault = Ok xs in r)
    (sym (c.loop.invariant.so_far placed.0 placed.1)
    ∙ (ap (λ (xs : List Timed). c.loop.stores.items ++ xs) (stores_none pages h address placed.0 (c.args.count - k) here none) ∙ append-nil c.loop.stores.items)) in
    record {
      stores = all;
      same = search rules;
      leaves =
          stores_all span c.loop.stores.items (stores_at pages h position address c.args.count) now.timeline.recent_states before.recent_states c.writer_at.new.self.recent_states all
          c.in-Ok-Never.ensures.recent_states c.loop.invariant.left;
      asks =
          up_to_all {A = List Timed} pages span position span (2 * k + 1) (2 * c.args.count) now.timeline c.writer_at.new.self c.loop.stores.items (omega arith)
          (omega (arith, c.loop-test.true, c.get-end.ensures.value))
          (up_to_one pages span position here span (2 * k) now.timeline before c.writer_at.new.self some first c.loop.invariant.within small
          c.loop.invariant.asked c.in-Ok-Never.ensures.asks.0 c.in-Ok-Never.ensures.asks.1);
    }

pub returns-in-Err-clause-asks : goal.returns-in-Err-clause-asks
returns-in-Err-clause-asks g c =
    let pages = g.row.PAGES in
    let span = g.row.SPAN in
    let now = c.args.self.now in
    let h = now.timeline.history in
    let address = c.args.address in
    let position = now.position in
    let k = c.loop.counter in
    let here = c.loop.before in
    let before = c.loop.self-inside.timeline in
    let some : 0 < span = omega (arith, c.self.invariant.sizes.least_span) in
    let even : address % 4 ≡ 0 = omega (arith, c.if-address-ne0.false, c.get-address.ensures.value) in
    let there : is_some (place_of_word pages address) ≡ true =
    ap (λ (a : ℕ). is_some (place_of_word pages a)) (sym c.get-address.ensures.value)
    ∙ (ap is_some (sym c.place_of.ensures) ∙ (c.is_none.ensures ∙ ap not c.if-is_none.false)) in
    let placed = some_place (place_of_word pages address) there in
    let far = subst (λ (s : Held). s.position ≤ max_position) c.self.view_is c.self.invariant.position in
    let near : here ≤ max_position = omega (arith, c.loop.invariant.within, far) in
    let first = λ (none : 2 * k ≡ 0). c.loop.invariant.first (omega (arith, none)) in
    let small : here % span ≤ span = (let less = mod-lt here some in omega (arith, less)) in
    let fault = c.in-Err.fault in
    let given = subst (λ (k : History). GivesFault (writer_at pages k here address) fault) c.loop.invariant.same
    (subst (λ (a : ℕ). GivesFault (writer_at pages before.history here a) fault) c.get-address.ensures.value c.in-Err.ensures.writer) in
    let memory = only_memory_writer pages h here address fault near even there given in
    subst (λ (f : Fault). AsksFault pages span position ((2 * c.args.count - 1) * span) now.timeline c.writer_at.new.self f) (sym memory)
    (up_to_part pages span position here span (2 * k) (2 * c.args.count) now.timeline before c.writer_at.new.self some first c.loop.invariant.within small
    (omega (arith, c.loop-test.true, c.get-end.ensures.value)) c.loop.invariant.asked
    (subst (λ (f : Fault). AsksFault pages span here 0 before c.writer_at.new.self f) memory c.in-Err.ensures.asks))

pub returns-in-Err-clause-leaves : goal.returns-in-Err-clause-leaves
returns-in-Err-clause-leaves g c =
    let pages = g.row.PAGES in
    let span = g.row.SPAN in
    let now = c.args.self.now in
    let h = now.timeline.history in
    let address = c.args.address in
    let position = now.position in
    let k = c.loop.counter in
    let here = c.loop.before in
    let before = c.loop.self-inside.timeline in
    let even : address % 4 ≡ 0 = omega (arith, c.if-address-ne0.false, c.get-address.ensures.value) in
    let there : is_some (place_of_word pages address) ≡ true =
    ap (λ (a : ℕ). is_some (place_of_word pages a)) (sym c.get-address.ensures.value)
    ∙ (ap is_some (sym c.place_of.ensures) ∙ (c.is_none.ensures ∙ ap not c.if-is_none.false)) in
    let placed = some_place (place_of_word pages address) there in
    let far = subst (λ (s : Held). s.position ≤ max_position) c.self.view_is c.self.invariant.position in
    let rest = stores_before pages h address placed.0 (c.args.count - k) here in
    stores_front span c.loop.stores.items rest (stores_at pages h position address c.args.count) now.timeline.recent_states before.recent_states c.writer_at.new.self.recent_states c.in-Err.fault
    (stores_given pages h position address placed.0 c.args.count far even placed.1
    ∙ ap (λ (xs : List Timed). let r : Result (List Timed) Fault = Ok xs in r) (sym (c.loop.invariant.so_far placed.0 placed.1)))
    c.in-Err.ensures.recent_states c.loop.invariant.left

pub overflow_add-step : goal.overflow_add-step
overflow_add-step g c =
    let pages = g.row.PAGES in
    let span = g.row.SPAN in
    let now = c.args.self.now in
    let h = now.timeline.history in
    let address = c.args.address in
    let position = now.position in
    let k = c.loop.counter in
    let here = c.loop.before in
    let before = c.loop.self-inside.timeline in
    let some : 0 < span = omega (arith, c.self.invariant.sizes.least_span) in
    let even : address % 4 ≡ 0 = omega (arith, c.if-address-ne0.false, c.get-address.ensures.value) in
    let there : is_some (place_of_word pages address) ≡ true =
    ap (λ (a : ℕ). is_some (place_of_word pages a)) (sym c.get-address.ensures.value)
    ∙ (ap is_some (sym c.place_of.ensures) ∙ (c.is_none.ensures ∙ ap not c.if-is_none.false)) in
    let placed = some_place (place_of_word pages address) there in
    let far = subst (λ (s : Held). s.position ≤ max_position) c.self.view_is c.self.invariant.position in
    let near : here ≤ max_position = omega (arith, c.loop.invariant.within, far) in
    let first = λ (none : 2 * k ≡ 0). c.loop.invariant.first (omega (arith, none)) in
    let small : here % span ≤ span = (let less = mod-lt here some in omega (arith, less)) in
    let step = c.in-Ok-Step.step in
    let wrote : writer_at pages h here address ≡ Ok (Step step) =
    subst (λ (w : Writer). writer_at pages h here address ≡ Ok w) c.in-Ok-Step.field-0-is
    (subst (λ (k : History). writer_at pages k here address ≡ Ok c.in-Ok-Step.field-0) c.loop.invariant.same
    (subst (λ (a : ℕ). writer_at pages before.history here a ≡ Ok c.in-Ok-Step.field-0) c.get-address.ensures.value c.in-Ok-Step.ensures.writer)) in
    let is = stored_by pages h here address step near even there wrote in
    let lower = before_position pages h here address step is in
    let asked = up_to_one pages span position here span (2 * k) now.timeline before c.writer_at.new.self some first c.loop.invariant.within small
    c.loop.invariant.asked c.in-Ok-Step.ensures.asks.0 c.in-Ok-Step.ensures.asks.1 in
    let less : (step + 1) % span ≤ span = (let less = mod-lt (step + 1) some in omega (arith, less)) in
    record { fits = omega (arith, lower, near) }

pub returns-in-Err-word_at-clause-stores : goal.returns-in-Err-word_at-clause-stores
returns-in-Err-word_at-clause-stores g c =
    let pages = g.row.PAGES in
    let span = g.row.SPAN in
    let now = c.args.self.now in
    let h = now.timeline.history in
    let address = c.args.address in
    let position = now.position in
    let k = c.loop.counter in
    let here = c.loop.before in
    let before = c.loop.self-inside.timeline in
    let some : 0 < span = omega (arith, c.self.invariant.sizes.least_span) in
    let even : address % 4 ≡ 0 = omega (arith, c.if-address-ne0.false, c.get-address.ensures.value) in
    let there : is_some (place_of_word pages address) ≡ true =
    ap (λ (a : ℕ). is_some (place_of_word pages a)) (sym c.get-address.ensures.value)
    ∙ (ap is_some (sym c.place_of.ensures) ∙ (c.is_none.ensures ∙ ap not c.if-is_none.false)) in
    let placed = some_place (place_of_word pages address) there in
    let far = subst (λ (s : Held). s.position ≤ max_position) c.self.view_is c.self.invariant.position in
    let near : here ≤ max_position = omega (arith, c.loop.invariant.within, far) in
    let first = λ (none : 2 * k ≡ 0). c.loop.invariant.first (omega (arith, none)) in
    let small : here % span ≤ span = (let less = mod-lt here some in omega (arith, less)) in
    let step = c.in-Ok-Step.step in
    let wrote : writer_at pages h here address ≡ Ok (Step step) =
    subst (λ (w : Writer). writer_at pages h here address ≡ Ok w) c.in-Ok-Step.field-0-is
    (subst (λ (k : History). writer_at pages k here address ≡ Ok c.in-Ok-Step.field-0) c.loop.invariant.same
    (subst (λ (a : ℕ). writer_at pages before.history here a ≡ Ok c.in-Ok-Step.field-0) c.get-address.ensures.value c.in-Ok-Step.ensures.writer)) in
    let is = stored_by pages h here address step near even there wrote in
    let lower = before_position pages h here address step is in
    let asked = up_to_one pages span position here span (2 * k) now.timeline before c.writer_at.new.self some first c.loop.invariant.within small
    c.loop.invariant.asked c.in-Ok-Step.ensures.asks.0 c.in-Ok-Step.ensures.asks.1 in
    let less : (step + 1) % span ≤ span = (let less = mod-lt (step + 1) some in omega (arith, less)) in
    let fault = c.in-Err-word_at.fault in
    let given = subst (λ (k : History). GivesFault (word_at pages k (step + 1) address) fault) (c.in-Ok-Step.ensures.same ∙ c.loop.invariant.same)
    (subst (λ (a : ℕ). GivesFault (word_at pages c.writer_at.new.self.history (step + 1) a) fault) c.get-address.ensures.value c.in-Err-word_at.ensures.word) in
    inr (
      only_memory pages h (step + 1) address placed.0 fault (omega (arith, lower, near)) even placed.1 given,
      subst (λ (r : Result (List Timed) Fault). MayLackMemory r) (sym (stores_given pages h position address placed.0 c.args.count far even placed.1)) tt,
    )

pub returns-in-Err-word_at-clause-asks : goal.returns-in-Err-word_at-clause-asks
returns-in-Err-word_at-clause-asks g c =
    let pages = g.row.PAGES in
    let span = g.row.SPAN in
    let now = c.args.self.now in
    let h = now.timeline.history in
    let address = c.args.address in
    let position = now.position in
    let k = c.loop.counter in
    let here = c.loop.before in
    let before = c.loop.self-inside.timeline in
    let some : 0 < span = omega (arith, c.self.invariant.sizes.least_span) in
    let even : address % 4 ≡ 0 = omega (arith, c.if-address-ne0.false, c.get-address.ensures.value) in
    let there : is_some (place_of_word pages address) ≡ true =
    ap (λ (a : ℕ). is_some (place_of_word pages a)) (sym c.get-address.ensures.value)
    ∙ (ap is_some (sym c.place_of.ensures) ∙ (c.is_none.ensures ∙ ap not c.if-is_none.false)) in
    let placed = some_place (place_of_word pages address) there in
    let far = subst (λ (s : Held). s.position ≤ max_position) c.self.view_is c.self.invariant.position in
    let near : here ≤ max_position = omega (arith, c.loop.invariant.within, far) in
    let first = λ (none : 2 * k ≡ 0). c.loop.invariant.first (omega (arith, none)) in
    let small : here % span ≤ span = (let less = mod-lt here some in omega (arith, less)) in
    let step = c.in-Ok-Step.step in
    let wrote : writer_at pages h here address ≡ Ok (Step step) =
    subst (λ (w : Writer). writer_at pages h here address ≡ Ok w) c.in-Ok-Step.field-0-is
    (subst (λ (k : History). writer_at pages k here address ≡ Ok c.in-Ok-Step.field-0) c.loop.invariant.same
    (subst (λ (a : ℕ). writer_at pages before.history here a ≡ Ok c.in-Ok-Step.field-0) c.get-address.ensures.value c.in-Ok-Step.ensures.writer)) in
    let is = stored_by pages h here address step near even there wrote in
    let lower = before_position pages h here address step is in
    let asked = up_to_one pages span position here span (2 * k) now.timeline before c.writer_at.new.self some first c.loop.invariant.within small
    c.loop.invariant.asked c.in-Ok-Step.ensures.asks.0 c.in-Ok-Step.ensures.asks.1 in
    let less : (step + 1) % span ≤ span = (let less = mod-lt (step + 1) some in omega (arith, less)) in
    let fault = c.in-Err-word_at.fault in
    let given = subst (λ (k : History). GivesFault (word_at pages k (step + 1) address) fault) (c.in-Ok-Step.ensures.same ∙ c.loop.invariant.same)
    (subst (λ (a : ℕ). GivesFault (word_at pages c.writer_at.new.self.history (step + 1) a) fault) c.get-address.ensures.value c.in-Err-word_at.ensures.word) in
    let memory = only_memory pages h (step + 1) address placed.0 fault (omega (arith, lower, near)) even placed.1 given in
    subst (λ (f : Fault). AsksFault pages span position ((2 * c.args.count - 1) * span) now.timeline c.word_at.new.self f) (sym memory)
    (up_to_part pages span position (step + 1) span (2 * k + 1) (2 * c.args.count) now.timeline c.writer_at.new.self c.word_at.new.self some
    (λ none. absurd (omega (arith, none))) (omega (arith, lower, c.loop.invariant.within)) less (omega (arith, c.loop-test.true, c.get-end.ensures.value)) asked
    (subst (λ (f : Fault). AsksFault pages span (step + 1) 0 c.writer_at.new.self c.word_at.new.self f) memory c.in-Err-word_at.ensures.asks))

pub returns-in-Err-word_at-clause-leaves : goal.returns-in-Err-word_at-clause-leaves
returns-in-Err-word_at-clause-leaves g c =
    let pages = g.row.PAGES in
    let span = g.row.SPAN in
    let now = c.args.self.now in
    let h = now.timeline.history in
    let address = c.args.address in
    let position = now.position in
    let k = c.loop.counter in
    let here = c.loop.before in
    let before = c.loop.self-inside.timeline in
    let even : address % 4 ≡ 0 = omega (arith, c.if-address-ne0.false, c.get-address.ensures.value) in
    let there : is_some (place_of_word pages address) ≡ true =
    ap (λ (a : ℕ). is_some (place_of_word pages a)) (sym c.get-address.ensures.value)
    ∙ (ap is_some (sym c.place_of.ensures) ∙ (c.is_none.ensures ∙ ap not c.if-is_none.false)) in
    let placed = some_place (place_of_word pages address) there in
    let far = subst (λ (s : Held). s.position ≤ max_position) c.self.view_is c.self.invariant.position in
    let rest = stores_before pages h address placed.0 (c.args.count - k) here in
    stores_front span c.loop.stores.items rest (stores_at pages h position address c.args.count) now.timeline.recent_states before.recent_states c.word_at.new.self.recent_states c.in-Err-word_at.fault
    (stores_given pages h position address placed.0 c.args.count far even placed.1
    ∙ ap (λ (xs : List Timed). let r : Result (List Timed) Fault = Ok xs in r) (sym (c.loop.invariant.so_far placed.0 placed.1)))
    (c.in-Err-word_at.ensures.keeps_state.refused ∙ c.in-Ok-Step.ensures.recent_states) c.loop.invariant.left

pub loop-preserved : goal.loop-preserved
loop-preserved g c =
    let pages = g.row.PAGES in
    let span = g.row.SPAN in
    let now = c.args.self.now in
    let h = now.timeline.history in
    let address = c.args.address in
    let position = now.position in
    let k = c.loop.counter in
    let here = c.loop.before in
    let before = c.loop.self-inside.timeline in
    let some : 0 < span = omega (arith, c.self.invariant.sizes.least_span) in
    let even : address % 4 ≡ 0 = omega (arith, c.if-address-ne0.false, c.get-address.ensures.value) in
    let there : is_some (place_of_word pages address) ≡ true =
    ap (λ (a : ℕ). is_some (place_of_word pages a)) (sym c.get-address.ensures.value)
    ∙ (ap is_some (sym c.place_of.ensures) ∙ (c.is_none.ensures ∙ ap not c.if-is_none.false)) in
    let placed = some_place (place_of_word pages address) there in
    let far = subst (λ (s : Held). s.position ≤ max_position) c.self.view_is c.self.invariant.position in
    let near : here ≤ max_position = omega (arith, c.loop.invariant.within, far) in
    let first = λ (none : 2 * k ≡ 0). c.loop.invariant.first (omega (arith, none)) in
    let small : here % span ≤ span = (let less = mod-lt here some in omega (arith, less)) in
    let step = c.in-Ok-Step.step in
    let wrote : writer_at pages h here address ≡ Ok (Step step) =
    subst (λ (w : Writer). writer_at pages h here address ≡ Ok w) c.in-Ok-Step.field-0-is
    (subst (λ (k : History). writer_at pages k here address ≡ Ok c.in-Ok-Step.field-0) c.loop.invariant.same
    (subst (λ (a : ℕ). writer_at pages before.history here a ≡ Ok c.in-Ok-Step.field-0) c.get-address.ensures.value c.in-Ok-Step.ensures.writer)) in
    let is = stored_by pages h here address step near even there wrote in
    let lower = before_position pages h here address step is in
    let asked = up_to_one pages span position here span (2 * k) now.timeline before c.writer_at.new.self some first c.loop.invariant.within small
    c.loop.invariant.asked c.in-Ok-Step.ensures.asks.0 c.in-Ok-Step.ensures.asks.1 in
    let less : (step + 1) % span ≤ span = (let less = mod-lt (step + 1) some in omega (arith, less)) in
    let given = subst (λ (k : History). word_at pages k (step + 1) address ≡ Ok c.in-Ok.word) (c.in-Ok-Step.ensures.same ∙ c.loop.invariant.same)
    (subst (λ (a : ℕ). word_at pages c.writer_at.new.self.history (step + 1) a ≡ Ok c.in-Ok.word) c.get-address.ensures.value c.in-Ok.ensures.word) in
    record {
      same = c.in-Ok.ensures.same ∙ (c.in-Ok-Step.ensures.same ∙ c.loop.invariant.same);
      still = c.loop.invariant.still;
      within = omega (arith, lower, c.loop.invariant.within);
      first = λ none. absurd (omega (arith, none));
      so_far = λ place is_place.
          let rest = stores_before pages h address place (c.args.count - (k + 1)) step in
          let word = value_is pages h (step + 1) address place c.in-Ok.word (omega (arith, lower, near)) even is_place given in
          let there = c.loop.stores.items in
          let one : Timed = record { time = step; word = c.in-Ok.word } in
          ap (λ (xs : List Timed). xs ++ rest) c.push.ensures.items
          ∙ (append_assoc there (one ∷ []) rest
          ∙ (ap (λ (xs : List Timed). there ++ xs)
          (ap (λ (word : ℕ). let x : Timed = record { time = step; word = word } in x ∷ rest) word
          ∙ (sym (stores_more pages h address place (c.args.count - (k + 1)) here step is)
          ∙ ap (λ (n : ℕ). stores_before pages h address place n here)
          (let e : c.args.count - (k + 1) + 1 ≡ c.args.count - k = omega (arith, c.loop-test.true, c.get-end.ensures.value) in e)))
          ∙ c.loop.invariant.so_far place is_place));
      len = omega (arith, c.push.ensures.len, c.loop.invariant.len);
      asked =
          subst (λ (n : ℕ). AskedUpTo pages span position span n now.timeline c.word_at.new.self) (let e : 2 * k + 1 + 1 ≡ 2 * (k + 1) = omega arith in e)
          (up_to_one pages span position (step + 1) span (2 * k + 1) now.timeline c.writer_at.new.self c.word_at.new.self some (λ none. absurd (omega (arith, none)))
          (omega (arith, lower, c.loop.invariant.within)) less asked c.in-Ok.ensures.asks.0 c.in-Ok.ensures.asks.1);
      left =
          store_one span c.loop.stores.items _ (record { time = step; word = c.in-Ok.word }) now.timeline.recent_states before.recent_states c.writer_at.new.self.recent_states
          c.word_at.new.self.recent_states c.push.ensures.items c.in-Ok-Step.ensures.recent_states c.loop.invariant.left
          (leaves_one span (step + 1) c.writer_at.new.self c.word_at.new.self c.in-Ok.word c.in-Ok.ensures.keeps_state);
    }

pub returns : goal.returns
returns g c =
    let pages = g.row.PAGES in
    let span = g.row.SPAN in
    let now = c.args.self.now in
    let h = now.timeline.history in
    let address = c.args.address in
    let position = now.position in
    let k = c.loop.counter in
    let here = c.loop.before in
    let before = c.loop.self-inside.timeline in
    let even : address % 4 ≡ 0 = omega (arith, c.if-address-ne0.false, c.get-address.ensures.value) in
    let there : is_some (place_of_word pages address) ≡ true =
    ap (λ (a : ℕ). is_some (place_of_word pages a)) (sym c.get-address.ensures.value)
    ∙ (ap is_some (sym c.place_of.ensures) ∙ (c.is_none.ensures ∙ ap not c.if-is_none.false)) in
    let placed = some_place (place_of_word pages address) there in
    let far = subst (λ (s : Held). s.position ≤ max_position) c.self.view_is c.self.invariant.position in
    let whole : c.args.count - k ≡ 0 = omega (arith, c.loop-test.false, c.get-end.ensures.value) in
    let all : stores_at pages h position address c.args.count ≡ Ok c.loop.stores.items =
    stores_given pages h position address placed.0 c.args.count far even placed.1
    ∙ ap (λ (xs : List Timed). let r : Result (List Timed) Fault = Ok xs in r)
    (sym (c.loop.invariant.so_far placed.0 placed.1)
    ∙ (ap (λ (n : ℕ). c.loop.stores.items ++ stores_before pages h address placed.0 n here) whole
    ∙ (ap (λ (xs : List Timed). c.loop.stores.items ++ xs) (stores_zero pages h address placed.0 here) ∙ append-nil c.loop.stores.items))) in
    record {
      stores = all;
      same = search rules;
      asks =
          up_to_all {A = List Timed} pages span position span (2 * k) (2 * c.args.count) now.timeline before c.loop.stores.items
          (omega (arith, c.loop-test.false, c.get-end.ensures.value, c.get-end.ensures.least)) (omega (arith, c.loop.auto.counter-end, c.get-end.ensures.value))
          c.loop.invariant.asked;
      leaves =
          stores_all span c.loop.stores.items (stores_at pages h position address c.args.count) now.timeline.recent_states before.recent_states before.recent_states all refl
          c.loop.invariant.left;
    }
