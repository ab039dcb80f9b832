-- States of the run that are kept.
use Rattle.std.proofs.Common.{◌≡◌, ◌⊎◌, inl, inr, ℕ, zero, suc, ◌∷◌, length, get_or, ◌+◌, ◌*◌, ◌/◌, ◌%◌, ◌<◌, ◌≤◌, List, [], Contains, nat_eq, take, Result, Ok, Err, OnOk, OnErr, refl, sym, ap, ◌∙◌, subst, arith}
use Rattle.std.specs.Set.{remove_key}
use Rattle.r3k_machine.specs.Run.{state_at}
use Rattle.r3k_machine.specs.State.{State}
use Rattle.present_run.specs.RecentStates.{HasNone, IsNearest, positions_of}
use Rattle.present_run.specs.History.{History}
use Rattle.present_run.specs.Reuse.{Holding, Reaches, ServesFirst, Spends, stay}
use Rattle.present_run.specs.TimelineView.{TimelineView, KeepsState}
use Rattle.present_run.specs.Runs.{AreRecentStates, IsRecentState}
use Rattle.present_run.proofs.Counts.{lacks_none}
use Rattle.checkpoints.specs.Kept.{row_at}
use Rattle.present_run.proofs.Spans.{ok_all}
use Rattle.present_run.specs.declared.present.Present.{Present}
use Rattle.present_run.specs.Shown.{Stays}

-- nothing is kept
pub none : {A : Type 0} (states : List A) (e : A) → states ≡ [] → ¬ Contains states e
none states e is there = let within = (subst (λ l. Contains l e) is there).1 in omega (arith, within)

-- a state that is kept is kept at its position
held_at : (f : ℕ × State) (states : List (ℕ × State)) (e : ℕ × State) (k : ℕ) → k < length (f ∷ states) → get_or (f ∷ states) k e ≡ e → Contains (positions_of (f ∷ states)) e.0
held_at f states e zero within at = (0, omega arith, ap (λ (p : ℕ × State). p.0) at)
held_at f [] e (suc k) within at = absurd (let e : ⊥ = omega (arith, within) in e)
held_at f (g ∷ states) e (suc k) within at =
    let rest = held_at g states e k (omega (arith, within)) at in
    let less = rest.1 in
    (suc rest.0, omega (arith, less), rest.2)

pub held : (states : List (ℕ × State)) (e : ℕ × State) → Contains states e → Contains (positions_of states) e.0
held [] e there = absurd (none [] e refl there)
held (f ∷ states) e there = held_at f states e there.0 there.1 there.2

-- and at its position a state is
held_by_at : (f : ℕ × State) (states : List (ℕ × State)) (position k : ℕ) → k < length (positions_of (f ∷ states)) → get_or (positions_of (f ∷ states)) k position ≡ position
    → (state : State) × Contains (f ∷ states) (position, state)
held_by_at f states position zero within at = (f.1, (0, omega arith, ap (λ (n : ℕ). let e : ℕ × State = (n, f.1) in e) at))
held_by_at f [] position (suc k) within at = absurd (let e : ⊥ = omega (arith, within) in e)
held_by_at f (g ∷ states) position (suc k) within at =
    let rest = held_by_at g states position k (omega (arith, within)) at in
    let less = rest.1.1 in
    (rest.0, (suc rest.1.0, omega (arith, less), rest.1.2))

pub held_by : (states : List (ℕ × State)) (position : ℕ) → Contains (positions_of states) position → (state : State) × Contains states (position, state)
held_by [] position there = absurd (none [] position refl there)
held_by (f ∷ states) position there = held_by_at f states position there.0 there.1 there.2

-- a query that runs nothing, as each span has a record that serves
pub stays : (pages span count more : ℕ) (h : Holding) → Spends pages span count more h h
stays pages span count more h = record {
  history = refl;
  pasts = refl;
  grows = omega arith;
  most = λ lacking _. let e : h.steps ≤ h.steps + (lacking * span + more) = omega arith in e;
  turns = λ index. stay (row_at h.rows index) refl;
}

pub there_are : (pages span count : ℕ) (h : Holding) → ((index : ℕ) → index < count → ServesFirst pages span h index) → Reaches pages span count h h
there_are pages span count h served = record {
  least = λ lacking lacks.
      let none : lacking * span ≡ 0 = ap (λ (n : ℕ). n * span) (lacks_none pages span h count lacking (λ index below far. far 0 (served index below)) lacks) ∙ (let e : 0 * span ≡ 0 = omega arith in e) in
      omega (arith, none);
  there = served;
}

pub on : {A E P : Type 0} (X Y : Type 0) (r : Result A E) → OnOk r X → OnErr r Y → (X → P) → (Y → P) → P
on X Y (Ok x) ok err f g = f ok
on X Y (Err e) ok err f g = g err

-- a state that is found at the position itself
here : (position n : ℕ) (states : List (ℕ × State)) (state : State) → IsNearest position position states n state → n ≡ position
here position n states state near = let least = near.least in let most = near.most in omega (arith, least, most)

pub kept_here : (position n : ℕ) (states : List (ℕ × State)) (state : State) → IsNearest position position states n state → Contains (positions_of states) position
kept_here position n states state near = subst (λ n. Contains (positions_of states) n) (here position n states state near) (held states (n, state) near.there)

pub recent_here : (pages span : ℕ) (h : History) (valid position n : ℕ) (states : List (ℕ × State)) (state : State)
    → AreRecentStates pages span h valid states → IsNearest position position states n state → IsRecentState pages span h valid position state
recent_here pages span h valid position n states state each near =
    subst (λ n. IsRecentState pages span h valid n state) (here position n states state near) (each (n, state) near.there)

pub none_here : (position : ℕ) (states : List (ℕ × State)) → HasNone position position states → ¬ Contains (positions_of states) position
none_here position states absent there = absent position there (omega arith) (omega arith)

-- a state that comes to be kept
pub new_recent : (pages span : ℕ) (h : History) (valid position : ℕ) (e : ℕ × State) → position / span ≤ valid
    → ¬ (position % span ≡ 0) → e ≡ (position, state_at pages h.image h.log position) → IsRecentState pages span h valid e.0 e.1
new_recent pages span h valid position e joined inside is =
    subst (λ (e : ℕ × State). IsRecentState pages span h valid e.0 e.1) (sym is) (record { is = refl; inside = inside; joined = joined })

-- what a query of the state at a position does with those that are kept
pub keeps_there : {A E : Type 0} {old new : TimelineView} (span position : ℕ) (states : List ℕ) (steps : ℕ) (x : A) → old.recent_states ≡ states → old.steps ≡ steps
    → Contains states position → ¬ (position % span ≡ 0) → new.steps ≡ steps → new.recent_states ≡ position ∷ remove_key (nat_eq position) states
    → KeepsState {A = A} {E = E} span position old new (Ok x)
keeps_there span position states steps x recent_is steps_is there inside same order = record {
  free = λ _. same ∙ sym steps_is;
  again = λ _. order ∙ ap (λ l. position ∷ remove_key (nat_eq position) l) (sym recent_is);
  first = λ absent. absurd (absent (subst (λ l. Contains l position) (sym recent_is) there));
  start = λ start. absurd (inside start);
  refused = tt;
}

pub keeps_new : {A E : Type 0} {old new : TimelineView} (span position : ℕ) (states : List ℕ) (x : A) → old.recent_states ≡ states → ¬ Contains states position
    → (position % span ≡ 0 → new.recent_states ≡ states) → (new.recent_states ≡ take 8 (position ∷ states)) ⊎ (new.recent_states ≡ states)
    → KeepsState {A = A} {E = E} span position old new (Ok x)
keeps_new span position states x is absent start order = record {
  free = λ there. absurd (absent (subst (λ l. Contains l position) is there));
  again = λ there. absurd (absent (subst (λ l. Contains l position) is there));
  first = λ _. elim order [
    | inl added ↦ inl (added ∙ ap (λ l. take 8 (position ∷ l)) (sym is))
    | inr same ↦ inr (same ∙ sym is)
  ];
  start = λ at. start at ∙ sym is;
  refused = tt;
}

pub keeps_not : {A E : Type 0} {old new : TimelineView} (span position : ℕ) (states : List ℕ) (result : Result A E) → old.recent_states ≡ states → ¬ Contains states position
    → new.recent_states ≡ states → KeepsState span position old new result
keeps_not span position states result is absent same = record {
  free = λ there. absurd (absent (subst (λ l. Contains l position) is there));
  again = λ there. absurd (absent (subst (λ l. Contains l position) is there));
  first = λ _. ok_all result _ (inr (same ∙ sym is));
  start = λ _. same ∙ sym is;
  refused = err_all result (same ∙ sym is);
}
  where
    err_all : {A E P : Type 0} (r : Result A E) → P → OnErr r P
    err_all (Ok x) p = tt
    err_all (Err e) p = p

-- what stays over two calls
pub stays_on : {pages span : ℕ} {old mid new : Present pages span} → Stays old mid → Stays mid new → Stays old new
stays_on a b = record { history = b.history ∙ a.history; recent_states = b.recent_states ∙ a.recent_states; pasts = b.pasts ∙ a.pasts }
