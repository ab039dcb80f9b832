-- What queries cost, as replies report it, and what several at one position cost together.
use Rattle.std.proofs.Common.{◌≡◌, ◌⊎◌, inl, inr, ℕ, zero, suc, ◌+◌, ◌-◌, ◌*◌, ◌/◌, ◌%◌, ◌<◌, ◌≤◌, ◌∷◌, nat_eq, cond, slice_get, take, List, Bool, Contains, Option, None, Some, Result, Ok, Err, refl, sym, ap, ◌∙◌, subst, arith}
use Rattle.std.proofs.Math.Nat.{add-mul, div-mul-le_self, mul-le-mul_right}
use Rattle.std.proofs.lemmas.Nat.{le-div}
use Rattle.std.proofs.lemmas.Bool.{eq-eqb}
use Rattle.std.specs.List.{remove}
use Rattle.std.specs.Option.{option_map_or}
use Rattle.std.specs.Set.{remove_key}
use Rattle.timeline.specs.Reuse.{Holding, IsServing, Lacks, Reaches, ServesFirst, Spends, Turns, kept_at, put_one, stay, use_one}
use Rattle.timeline.specs.History.{History}
use Rattle.timeline.proofs.Counts.{turned_on}
use Rattle.refusal.specs.declared.fault.Fault.{Fault}
use Rattle.refusal.specs.declared.fault.Fault.TheVariants.{Memory}
use Rattle.timeline.specs.TimelineView.{Asks, AsksFault, TimelineView, KeepsState, holding}
use Rattle.wb_text.specs.declared.reply.Reply.{Reply}
use Rattle.wb_text.specs.declared.reply.Reply.TheVariants.{Fault as Refused}
use Rattle.wb_session.specs.Cost.{AsksState, AsksSteps, AsksWords, KeepsStateOnce, outcome_of}
use Rattle.wb_session.specs.Session.{Held}

-- a query of the state that is answered, and one that is refused
pub state_shown : {A : Type 0} (pages span : ℕ) (old new : Held) (x : A) (reply : Reply) → outcome_of reply ≡ Ok tt
    → Asks {A = A} pages span old.position 0 old.timeline new.timeline (Ok x)
    → KeepsState {A = A} {E = Fault} span old.position old.timeline new.timeline (Ok x)
    → AsksState pages span old new reply
state_shown pages span old new x reply e asks keeps_state = record {
  asks = subst (λ (r : Result (Unit {0}) Fault). Asks {A = Unit {0}} pages span old.position 0 old.timeline new.timeline r) (sym e) asks;
  keeps_state = subst (λ (r : Result (Unit {0}) Fault). KeepsState {A = Unit {0}} {E = Fault} span old.position old.timeline new.timeline r) (sym e)
      (record { free = keeps_state.free; again = keeps_state.again; first = keeps_state.first; start = keeps_state.start; refused = tt });
}

pub state_refused : {A : Type 0} (pages span : ℕ) (old new : Held) (fault : Fault)
    → Asks {A = A} pages span old.position 0 old.timeline new.timeline (Err fault)
    → KeepsState {A = A} {E = Fault} span old.position old.timeline new.timeline (Err fault)
    → AsksState pages span old new (Refused fault)
state_refused pages span old new fault asks keeps_state = record {
  asks = asks;
  keeps_state = record { free = keeps_state.free; again = λ _. tt; first = λ _. tt; start = keeps_state.start; refused = keeps_state.refused };
}

-- a query of steps that is answered, and one that is refused
pub steps_shown : {A : Type 0} (pages span beyond : ℕ) (old new : Held) (x : A) (reply : Reply) → outcome_of reply ≡ Ok tt
    → Asks {A = A} pages span old.position beyond old.timeline new.timeline (Ok x)
    → new.timeline.recent_states ≡ old.timeline.recent_states
    → AsksSteps pages span beyond old new reply
steps_shown pages span beyond old new x reply e asks recent_states = record {
  asks = subst (λ (r : Result (Unit {0}) Fault). Asks {A = Unit {0}} pages span old.position beyond old.timeline new.timeline r) (sym e) asks;
  recent_states = recent_states;
}

pub steps_refused : (pages span beyond : ℕ) (old new : Held) (fault : Fault)
    → AsksFault pages span old.position beyond old.timeline new.timeline fault
    → new.timeline.recent_states ≡ old.timeline.recent_states
    → AsksSteps pages span beyond old new (Refused fault)
steps_refused pages span beyond old new fault asks recent_states = record { asks = asks; recent_states = recent_states }

-- words that are shown, and that are refused
pub words_shown : {A : Type 0} (pages span count : ℕ) (old new : Held) (x : A) (reply : Reply) → outcome_of reply ≡ Ok tt
    → Asks {A = A} pages span old.position ((count - 1) * (old.position % span)) old.timeline new.timeline (Ok x)
    → (Contains old.timeline.recent_states old.position → new.timeline.steps ≡ old.timeline.steps)
    → KeepsStateOnce {A = A} span old.position old.timeline new.timeline (Ok x)
    → AsksWords pages span count old new reply
words_shown pages span count old new x reply e asks free keeps_state = record {
  asks = subst (λ (r : Result (Unit {0}) Fault). Asks {A = Unit {0}} pages span old.position ((count - 1) * (old.position % span)) old.timeline new.timeline r) (sym e) asks;
  free = free;
  keeps_state = subst (λ (r : Result (Unit {0}) Fault). KeepsStateOnce {A = Unit {0}} span old.position old.timeline new.timeline r) (sym e) keeps_state;
}

-- Several queries of words at one position.
-- where the first record of each span serves, none is lacking
all_there : (pages span : ℕ) (h : Holding) (count : ℕ) → ((index : ℕ) → index < count → ServesFirst pages span h index) → Lacks pages span h count 0
unfolding Lacks
all_there pages span h zero all = refl
all_there pages span h (suc index) all = inl ((λ far. far 0 (all index (omega arith))), all_there pages span h index (λ i below. all i (omega (arith, below))))

-- nothing was asked yet
pub nothing_spent : (pages span count : ℕ) (h : Holding) → Spends pages span count 0 h h
nothing_spent pages span count h = record {
  history = refl;
  grows = omega arith;
  most = λ lacking _. let e : h.steps ≤ h.steps + (lacking * span + 0) = omega arith in e;
  pasts = refl;
  turns = λ index. stay (kept_at h index) refl;
}

pub spends_more : (pages span count less more : ℕ) (old new : Holding) → less ≤ more → Spends pages span count less old new → Spends pages span count more old new
spends_more pages span count less more old new within spends = record {
  history = spends.history;
  grows = spends.grows;
  most = λ lacking lacks. let most = spends.most lacking lacks in omega (arith, most, within);
  pasts = spends.pasts;
  turns = spends.turns;
}

-- a record that serves and is used comes first
used_first : (pages span : ℕ) (h : History) (index place : ℕ) (before : List _) (o : Option _) → IsServing pages span h index o
    → IsServing pages span h index (slice_get (option_map_or (λ s. s ∷ remove before place) o before) 0)
used_first pages span h index place before None near = absurd near
used_first pages span h index place before (Some s) near = near

-- where queries turned a row, the record that was used last serves if it did before
first_turned : (pages span : ℕ) (h : Holding) (index : ℕ) (row : List _) → Turns pages span h index row → ServesFirst pages span h index
    → IsServing pages span h.history index (slice_get row 0)
first_turned pages span h index _ (stay row is) serves = subst (λ row. IsServing pages span h.history index (slice_get row 0)) (sym is) serves
first_turned pages span h index _ (use_one before row turns place near is) serves =
    subst (λ row. IsServing pages span h.history index (slice_get row 0)) (sym is) (used_first pages span h.history index place before (slice_get before place) near)
first_turned pages span h index _ (put_one before row turns none is) serves =
    absurd (none (λ far. far 0 (first_turned pages span h index before turns serves)))

still_first : (pages span count more : ℕ) (now new : Holding) (index : ℕ) → Spends pages span count more now new → ServesFirst pages span now index
    → ServesFirst pages span new index
still_first pages span count more now new index spends serves =
    subst (λ (h : History). IsServing pages span h index (slice_get (kept_at new index) 0)) (sym spends.history)
    (first_turned pages span now index (kept_at new index) (spends.turns index) serves)

-- a query after one that was answered, and at no later span, runs no span
spends_again : (pages span below count a b : ℕ) (old now new : Holding) → below ≤ count → Spends pages span count a old now → Reaches pages span count old now
    → Spends pages span below b now new → Spends pages span count (a + b) old new
spends_again pages span below count a b old now new within first reaches second = record {
  history = second.history ∙ first.history;
  grows = let before = first.grows in let after = second.grows in omega (arith, before, after);
  most = λ lacking lacks.
      let before = first.most lacking lacks in
      let after = second.most 0 (all_there pages span now below (λ index less. reaches.there index (omega (arith, less, within)))) in
      let none : 0 * span ≡ 0 = omega arith in
      omega (arith, before, after, none);
  pasts = second.pasts ∙ first.pasts;
  turns = λ index. turned_on pages span old now index (kept_at new index) first.history first.pasts (first.turns index) (second.turns index);
}

reaches_again : (pages span below count b : ℕ) (old now new : Holding) → Reaches pages span count old now → Spends pages span below b now new
    → Reaches pages span count old new
reaches_again pages span below count b old now new first spends = record {
  least = λ lacking lacks. let before = first.least lacking lacks in let after = spends.grows in omega (arith, before, after);
  there = λ index less. still_first pages span below b now new index spends (first.there index less);
}

one_more : (n rest : ℕ) → (n + 1) * rest ≡ n * rest + rest
one_more n rest = add-mul n 1 rest ∙ ap (λ (m : ℕ). n * rest + m) (let e : 1 * rest ≡ rest = omega arith in e)

-- So many queries were made at positions up to one, the first of them at that position. Each after it costs at most `rest` steps.
pub record AskedUpTo (pages span position rest asked : ℕ) (old now : TimelineView) : Type 0 where
  pub first : asked ≡ 0 → now ≡ old
  pub spends : Spends pages span (position / span) (position % span + (asked - 1) * rest) (holding old) (holding now)
  pub reaches : 0 < asked → Reaches pages span (position / span) (holding old) (holding now)

pub up_to_none : (pages span position rest : ℕ) (h : TimelineView) → AskedUpTo pages span position rest 0 h h
up_to_none pages span position rest h = record {
  first = λ _. refl;
  spends = spends_more pages span (position / span) 0 (position % span + (0 - 1) * rest) (holding h) (holding h) (omega arith) (nothing_spent pages span (position / span) (holding h));
  reaches = λ some. absurd (omega (arith, some));
}

spans_below : (q position span : ℕ) → 0 < span → q ≤ position → q / span ≤ position / span
spans_below q position span some below = le-div (q / span) position span some (let least = div-mul-le_self q span in omega (arith, least, below))

-- what one more costs, whether it is answered or not
spends_one : (pages span position q rest asked : ℕ) (old now new : TimelineView) → 0 < span → (asked ≡ 0 → q ≡ position) → q ≤ position → q % span ≤ rest
    → AskedUpTo pages span position rest asked old now
    → Spends pages span (q / span) (q % span + 0) (holding now) (holding new)
    → Spends pages span (position / span) (position % span + asked * rest) (holding old) (holding new)
spends_one pages span position q rest zero old now new some at below small so one =
    spends_more pages span (position / span) (position % span + 0) (position % span + 0 * rest) (holding old) (holding new) (omega arith)
    (subst (λ (h : TimelineView). Spends pages span (position / span) (position % span + 0) (holding h) (holding new)) (so.first refl)
    (subst (λ (p : ℕ). Spends pages span (p / span) (p % span + 0) (holding now) (holding new)) (at refl) one))
spends_one pages span position q rest (suc n) old now new some at below small so one =
    let less : (suc n - 1) * rest ≡ n * rest = ap (λ (k : ℕ). k * rest) (let e : suc n - 1 ≡ n = omega arith in e) in
    let more : suc n * rest ≡ n * rest + rest = ap (λ (k : ℕ). k * rest) (let e : suc n ≡ n + 1 = omega arith in e) ∙ one_more n rest in
    spends_more pages span (position / span) (position % span + (suc n - 1) * rest + (q % span + 0)) (position % span + suc n * rest) (holding old) (holding new)
    (omega (arith, less, more, small))
    (spends_again pages span (q / span) (position / span) (position % span + (suc n - 1) * rest) (q % span + 0) (holding old) (holding now) (holding new)
    (spans_below q position span some below) so.spends (so.reaches (omega arith)) one)

reaches_one : (pages span position q rest asked : ℕ) (old now new : TimelineView) → (asked ≡ 0 → q ≡ position) → AskedUpTo pages span position rest asked old now
    → Spends pages span (q / span) (q % span + 0) (holding now) (holding new)
    → Reaches pages span (q / span) (holding now) (holding new)
    → Reaches pages span (position / span) (holding old) (holding new)
reaches_one pages span position q rest zero old now new at so one there =
    subst (λ (h : TimelineView). Reaches pages span (position / span) (holding h) (holding new)) (so.first refl)
    (subst (λ (p : ℕ). Reaches pages span (p / span) (holding now) (holding new)) (at refl) there)
reaches_one pages span position q rest (suc n) old now new at so one there =
    reaches_again pages span (q / span) (position / span) (q % span + 0) (holding old) (holding now) (holding new) (so.reaches (omega arith)) one

pub up_to_one : (pages span position q rest asked : ℕ) (old now new : TimelineView) → 0 < span → (asked ≡ 0 → q ≡ position) → q ≤ position → q % span ≤ rest
    → AskedUpTo pages span position rest asked old now
    → Spends pages span (q / span) (q % span + 0) (holding now) (holding new) → Reaches pages span (q / span) (holding now) (holding new)
    → AskedUpTo pages span position rest (asked + 1) old new
up_to_one pages span position q rest asked old now new some at below small so one there = record {
  first = λ none. absurd (omega (arith, none));
  spends = subst (λ (n : ℕ). Spends pages span (position / span) (position % span + n * rest) (holding old) (holding new)) (let e : asked ≡ asked + 1 - 1 = omega arith in e)
      (spends_one pages span position q rest asked old now new some at below small so one);
  reaches = λ _. reaches_one pages span position q rest asked old now new at so one there;
}

-- all of them were answered
pub up_to_all : {A : Type 0} (pages span position rest asked count : ℕ) (old new : TimelineView) (x : A) → 0 < asked → asked ≤ count
    → AskedUpTo pages span position rest asked old new → Asks {A = A} pages span position ((count - 1) * rest) old new (Ok x)
up_to_all pages span position rest asked count old new x some within so =
    let less : (asked - 1) * rest ≤ (count - 1) * rest = mul-le-mul_right rest (let l : asked - 1 ≤ count - 1 = omega (arith, within) in l) in (
      spends_more pages span (position / span) (position % span + (asked - 1) * rest) (position % span + (count - 1) * rest) (holding old) (holding new) (omega (arith, less)) so.spends,
      so.reaches some,
    )

-- the last of them was refused for memory
pub up_to_part : (pages span position q rest asked count : ℕ) (old now new : TimelineView) → 0 < span → (asked ≡ 0 → q ≡ position) → q ≤ position → q % span ≤ rest
    → asked < count → AskedUpTo pages span position rest asked old now
    → AsksFault pages span q 0 now new Memory → AsksFault pages span position ((count - 1) * rest) old new Memory
up_to_part pages span position q rest asked count old now new some at below small within so asks =
    let less : asked * rest ≤ (count - 1) * rest = mul-le-mul_right rest (let l : asked ≤ count - 1 = omega (arith, within) in l) in
    spends_more pages span (position / span) (position % span + asked * rest) (position % span + (count - 1) * rest) (holding old) (holding new) (omega (arith, less))
    (spends_one pages span position q rest asked old now new some at below small so asks)

-- what is left of the kept states where a query of the state was answered
abbrev pub Left : (span position : ℕ) → (old new : TimelineView) → Type 0
Left span position old new = KeepsState {A = Unit {0}} {E = Fault} span position old new (Ok tt)

left_by : {A : Type 0} (span position : ℕ) (old new : TimelineView) (x : A) → KeepsState {A = A} {E = Fault} span position old new (Ok x) → Left span position old new
left_by span position old new x keeps_state = record { free = keeps_state.free; again = keeps_state.again; first = keeps_state.first; start = keeps_state.start; refused = tt }

first_removed : (p : ℕ) (ps : List ℕ) → remove_key (nat_eq p) (p ∷ ps) ≡ ps
first_removed p ps = ap (λ (same : Bool). cond same ps (p ∷ remove_key (nat_eq p) ps)) (eq-eqb p p refl)

-- a second query leaves them as the first one did
left_again : (span position : ℕ) (old now new : TimelineView) → Left span position old now → Left span position now new → Left span position old new
left_again span position old now new before after =
    let comes_first : Contains old.recent_states position → Contains now.recent_states position =
    λ there. subst (λ (l : List ℕ). Contains l position) (sym (before.again there)) (0, omega arith, refl) in record {
      free = λ there. after.free (comes_first there) ∙ before.free there;
      again = λ there.
          after.again (comes_first there)
          ∙ ap (λ (l : List ℕ). position ∷ l) (ap (remove_key (nat_eq position)) (before.again there) ∙ first_removed position (remove_key (nat_eq position) old.recent_states));
      first = λ none.
          elim (before.first none) [
            | inl took ↦
                let there : Contains now.recent_states position = subst (λ (l : List ℕ). Contains l position) (sym took) (0, omega arith, refl) in
                inl (after.again there
                ∙ ap (λ (l : List ℕ). position ∷ l) (ap (remove_key (nat_eq position)) took ∙ first_removed position (take 7 old.recent_states)))
            | inr same ↦
                elim (after.first (λ there. none (subst (λ (l : List ℕ). Contains l position) same there))) [
                  | inl took ↦ inl (took ∙ ap (λ (l : List ℕ). take 8 (position ∷ l)) same)
                  | inr still ↦ inr (still ∙ same)
                ]
          ];
      start = λ at. after.start at ∙ before.start at;
      refused = tt;
    }

-- one more query, after none or after some
left_one : (span position words : ℕ) (old now new : TimelineView) → (words ≡ 0 → now ≡ old) → (0 < words → Left span position old now) → Left span position now new
    → Left span position old new
left_one span position zero old now new none some keeps_state = subst (λ (h : TimelineView). Left span position h new) (none refl) keeps_state
left_one span position (suc n) old now new none some keeps_state = left_again span position old now new (some (omega arith)) keeps_state

-- one more, which is refused
pub left_refused : (span position words : ℕ) (old now new : TimelineView) → (words ≡ 0 → now ≡ old) → (0 < words → Left span position old now)
    → new.recent_states ≡ now.recent_states → (Contains old.recent_states position → new.steps ≡ old.steps)
    → (new.recent_states ≡ old.recent_states) ⊎ Left span position old new
left_refused span position zero old now new none some same free = inl (same ∙ ap (λ (h : TimelineView). h.recent_states) (none refl))
left_refused span position (suc n) old now new none some same free =
    let before = some (omega arith) in
    inr (record {
      free = free;
      again = λ there. same ∙ before.again there;
      first = λ none. elim (before.first none) [ inl took ↦ inl (same ∙ took) | inr still ↦ inr (same ∙ still) ];
      start = λ at. same ∙ before.start at;
      refused = tt;
    })

-- n words were asked for at a position
pub record AskedSo (pages span position words : ℕ) (old now : TimelineView) : Type 0 where
  pub up_to : AskedUpTo pages span position (position % span) words old now
  pub free : Contains old.recent_states position → (now.steps ≡ old.steps) × Contains now.recent_states position
  pub left : 0 < words → Left span position old now

pub asked_none : (pages span position : ℕ) (h : TimelineView) → AskedSo pages span position 0 h h
asked_none pages span position h = record {
  up_to = up_to_none pages span position (position % span) h;
  free = λ there. (refl, there);
  left = λ some. absurd (omega (arith, some));
}

pub asked_one : {A : Type 0} (pages span position words : ℕ) (old now new : TimelineView) (x : A) → 0 < span → AskedSo pages span position words old now
    → Asks {A = A} pages span position 0 now new (Ok x) → KeepsState {A = A} {E = Fault} span position now new (Ok x)
    → AskedSo pages span position (words + 1) old new
asked_one pages span position words old now new x some so asks keeps_state = record {
  up_to = up_to_one pages span position position (position % span) words old now new some (λ _. refl) (omega arith) (omega arith) so.up_to asks.0 asks.1;
  free = λ there.
      let before = so.free there in
      (keeps_state.free before.1 ∙ before.0, subst (λ (l : List ℕ). Contains l position) (sym (keeps_state.again before.1)) (0, omega arith, refl));
  left = λ _. left_one span position words old now new so.up_to.first so.left (left_by span position now new x keeps_state);
}

-- one of them was refused for memory
pub asked_part : (pages span position words count : ℕ) (old now new : TimelineView) → 0 < span → words < count → AskedSo pages span position words old now
    → AsksFault pages span position 0 now new Memory
    → AsksFault pages span position ((count - 1) * (position % span)) old new Memory
asked_part pages span position words count old now new some below so asks =
    up_to_part pages span position position (position % span) words count old now new some (λ _. refl) (omega arith) (omega arith) below so.up_to asks
