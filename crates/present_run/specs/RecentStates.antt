-- States of a run that are kept by their positions, the one that was used last first (own).
use Rattle.std.specs.Prelude.{ℕ, ◌≤◌, List, ◌∷◌, map, nat_eq, Contains}
use Rattle.std.specs.Option.{option_map_or}
use Rattle.std.specs.Map.{lookup_entry, remove_entry}
use Rattle.r3k_machine.specs.State.{State}

-- the positions, in their order
abbrev pub positions_of : List (ℕ × State) → List ℕ
positions_of states = map (λ e. e.0) states

-- no position lies in a range that includes both ends
abbrev pub HasNone : (from to : ℕ) → List (ℕ × State) → Type 0
HasNone from to states = (p : ℕ) → Contains (positions_of states) p → from ≤ p → ¬ (p ≤ to)

-- the state is kept at the position, which is the greatest in a range
pub record IsNearest (from to : ℕ) (states : List (ℕ × State)) (position : ℕ) (state : State) : Type 0 where
  pub there : Contains states (position, state)
  pub least : from ≤ position
  pub most : position ≤ to
  pub greatest : (p : ℕ) → Contains (positions_of states) p → p ≤ to → p ≤ position

-- the state at a position goes first, and the others follow in their order; where there is none, all stay as they were
abbrev pub touched : ℕ → List (ℕ × State) → List (ℕ × State)
touched position states =
    option_map_or (λ e. e ∷ remove_entry (nat_eq position) states) (lookup_entry (nat_eq position) states) states
