-- Labels and their addresses (own).
use Rattle.std.specs.Prelude.{◌≡◌, ℕ, List, map, true}
use Rattle.std.specs.Borrow.{Bor}
use Rattle.std.specs.Ordering.{nat_cmp}
use Rattle.std.specs.Cmp.Lexicographic.{slice_cmp}
use Rattle.std.specs.FinMap.{is_sorted}

-- the names of labels as text
abbrev pub names : List (Bor (List ℕ) × ℕ) → List (List ℕ × ℕ)
names entries = map (λ e. (e.0.now, e.1)) entries

-- the names ascend
abbrev pub AreSorted : List (List ℕ × ℕ) → Type 0
AreSorted entries = is_sorted (slice_cmp nat_cmp) entries ≡ true
