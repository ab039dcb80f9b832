-- A tree of unions by levels (own): the lowest level has the sets of the spans, and each node above has the pages of two nodes once
-- both are there. A level may have room after its nodes.
use Rattle.std.specs.Prelude.{◌≡◌, ℕ, ◌+◌, ◌*◌, ◌/◌, ◌<◌, ◌≤◌, List, [], ◌∷◌, length, slice_index_or}
use Rattle.write_index.specs.Pages.{IsUnion, pages_at}
use Rattle.write_index.specs.declared.tree.TheConstants.{LEVELS, MAX_SPANS}

-- the lowest level
abbrev pub bottom : List (List (List ℕ)) → List (List ℕ)
bottom levels = slice_index_or levels 0 []

-- a level with `count` nodes and its unions above, but for the union that rests on a node that is to be put there
pub record IsLevelBut (node count : ℕ) (level parents : List (List ℕ)) : Type 0 where
  pub whole : count ≤ length level
  pub unions : (m : ℕ) → m < count / 2 → ¬ (m ≡ node / 2) → IsUnion (pages_at level (2 * m)) (pages_at level (2 * m + 1)) (pages_at parents m)

-- a tree with `count` spans, but for what rests on a node that is to be put there
abbrev pub IsTreeBut : ℕ → ℕ → List (List (List ℕ)) → Type 0
IsTreeBut node count [] = count ≡ 0
IsTreeBut node count (level ∷ above) = IsLevelBut node count level (bottom above) × IsTreeBut (node / 2) (count / 2) above

-- a level with `count` nodes and its unions above
pub record IsLevel (count : ℕ) (level parents : List (List ℕ)) : Type 0 where
  pub whole : count ≤ length level
  pub unions : (m : ℕ) → m < count / 2 → IsUnion (pages_at level (2 * m)) (pages_at level (2 * m + 1)) (pages_at parents m)

-- a tree with `count` spans
abbrev pub IsTree : ℕ → List (List (List ℕ)) → Type 0
IsTree count [] = count ≡ 0
IsTree count (level ∷ above) = IsLevel count level (bottom above) × IsTree (count / 2) above

-- room for `count` spans
abbrev pub HasRoom : ℕ → List (List (List ℕ)) → Type 0
HasRoom count [] = count ≡ 0
HasRoom count (level ∷ above) = (count ≤ length level) × HasRoom (count / 2) above

-- a level with more room
pub record Keeps (old new : List (List ℕ)) : Type 0 where
  pub long : length old ≤ length new
  pub same : (m : ℕ) → m < length old → pages_at new m ≡ pages_at old m

-- levels with more room
abbrev pub Grown : List (List (List ℕ)) → List (List (List ℕ)) → Type 0
Grown [] [] = Unit {0}
Grown [] (_ ∷ _) = ⊥
Grown (_ ∷ _) [] = ⊥
Grown (a ∷ old) (b ∷ new) = Keeps a b × Grown old new

-- an index of `count` spans
pub record IsIndex (count : ℕ) (levels : List (List (List ℕ))) : Type 0 where
  pub tree : IsTree count levels
  pub few : length levels ≤ LEVELS
  pub deep : 0 < count → length levels ≡ LEVELS
  pub small : count ≤ MAX_SPANS

-- the first spans stay
abbrev pub Same : ℕ → List (List ℕ) → List (List ℕ) → Type 0
Same count old new = (m : ℕ) → m < count → pages_at new m ≡ pages_at old m

-- a span is put where there were `held` spans; those between have no pages
pub record IsPut (held index : ℕ) (set : List ℕ) (old new : List (List ℕ)) : Type 0 where
  pub there : pages_at new index ≡ set
  pub kept : (m : ℕ) → m < held → ¬ (m ≡ index) → pages_at new m ≡ pages_at old m
  pub none : (m : ℕ) → held ≤ m → m < index → pages_at new m ≡ []
