-- Which states are kept after several queries of states.
use Rattle.std.proofs.Common.{◌≡◌, ℕ, ◌+◌, List, [], ◌∷◌, ◌++◌, length, take, Result, Ok, Err, refl, sym, ap, ◌∙◌, subst}
use Rattle.std.proofs.Math.Seq.{take-append_seam}
use Rattle.std.proofs.lemmas.List.{map-append}
use Rattle.refusal.specs.declared.fault.Fault.{Fault}
use Rattle.timeline.specs.TimelineView.{TimelineView, KeepsState}
use Rattle.wb_text.specs.declared.lists.Timed.{Timed}
use Rattle.wb_session.specs.Cost.{Leaves, LeavesAlong, LeavesBy}
use Rattle.wb_session.specs.Lists.{states_after}

-- one query that is answered
pub leaves_one : {A : Type 0} (span position : ℕ) (old new : TimelineView) (x : A) → KeepsState {A = A} {E = Fault} span position old new (Ok x)
    → Leaves span position old.recent_states new.recent_states
leaves_one span position old new x keeps_state = record { again = keeps_state.again; first = keeps_state.first; start = keeps_state.start }

-- one more after others
pub along_one : (span : ℕ) (positions : List ℕ) (position : ℕ) (before between after : List ℕ) → LeavesAlong span positions before between
    → Leaves span position between after → LeavesAlong span (positions ++ position ∷ []) before after
along_one span [] position before between after along one =
    (after, subst (λ (kept : List ℕ). Leaves span position kept after) along one, refl)
along_one span (first ∷ rest) position before between after along one =
    (along.0, along.1, along_one span rest position along.0 between after along.2 one)

-- the first of several were answered, and the next one was refused
pub along_front : (span : ℕ) (asked rest positions before between after : List ℕ) (fault : Fault) → asked ++ rest ≡ positions → after ≡ between
    → LeavesAlong span asked before between → LeavesBy {A = Unit {0}} span positions before after (Err fault)
along_front span asked rest positions before between after fault whole same along = (
  length asked,
  subst (λ (front : List ℕ). LeavesAlong span front before after) (sym (ap (take (length asked)) (sym whole) ∙ take-append_seam asked rest))
      (subst (λ (kept : List ℕ). LeavesAlong span asked before kept) (sym same) along),
)

-- one more store is found, and the state after it is asked for
pub store_one : (span : ℕ) (stores more : List Timed) (store : Timed) (before between now after : List ℕ) → more ≡ stores ++ store ∷ [] → now ≡ between
    → LeavesAlong span (states_after (Ok stores)) before between → Leaves span (store.time + 1) now after → LeavesAlong span (states_after (Ok more)) before after
store_one span stores more store before between now after is same along one =
    subst (λ (positions : List ℕ). LeavesAlong span positions before after)
    (sym (map-append (λ (store : Timed). store.time + 1) stores (store ∷ [])) ∙ ap (λ (stores : List Timed). states_after (Ok stores)) (sym is))
    (along_one span (states_after (Ok stores)) (store.time + 1) before now after
    (subst (λ (kept : List ℕ). LeavesAlong span (states_after (Ok stores)) before kept) (sym same) along) one)

-- these are all stores, or the first of them, where a query is refused
pub stores_all : (span : ℕ) (stores : List Timed) (all : Result (List Timed) Fault) (before between after : List ℕ) → all ≡ Ok stores → after ≡ between
    → LeavesAlong span (states_after (Ok stores)) before between → LeavesAlong span (states_after all) before after
stores_all span stores all before between after whole same along =
    subst (λ (r : Result (List Timed) Fault). LeavesAlong span (states_after r) before after) (sym whole)
    (subst (λ (kept : List ℕ). LeavesAlong span (states_after (Ok stores)) before kept) (sym same) along)

pub stores_front : (span : ℕ) (stores rest : List Timed) (all : Result (List Timed) Fault) (before between after : List ℕ) (fault : Fault)
    → all ≡ Ok (stores ++ rest) → after ≡ between → LeavesAlong span (states_after (Ok stores)) before between
    → LeavesBy {A = Unit {0}} span (states_after all) before after (Err fault)
stores_front span stores rest all before between after fault whole same along =
    along_front span (states_after (Ok stores)) (states_after (Ok rest)) (states_after all) before between after fault
    (sym (ap states_after whole ∙ map-append (λ (store : Timed). store.time + 1) stores rest)) same along
