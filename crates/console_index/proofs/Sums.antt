-- Sums of counts.
use Rattle.std.proofs.Common.{◌≡◌, ℕ, zero, suc, ◌+◌, ◌*◌, ◌<◌, ◌≤◌, List, [], length, min, slice_index, refl, ap, arith, add-one, add-zero, inl, inr}
use Rattle.std.proofs.lemmas.Bool.{cases_lt}
use Rattle.std.proofs.lemmas.List.{get_or_past}
use Rattle.std.proofs.Math.Nat.{add-suc}
use Rattle.console_index.specs.Counts.{count_at, total}

pub total_next : (counts : List (List ℕ)) (line n : ℕ) → total counts line (n + 1) ≡ total counts line n + count_at counts line n
unfolding total
total_next counts line n = rw add-one refl

-- the same counts have the same sum
pub total_same : (a b : List (List ℕ)) (line n : ℕ) → ((m : ℕ) → m < n → count_at a line m ≡ count_at b line m) → total a line n ≡ total b line n
unfolding total
total_same a b line zero same = refl
total_same a b line (suc n) same = omega (arith, total_same a b line n (λ m within. same m (omega arith)), same n (omega arith))

pub total_small : (counts : List (List ℕ)) (line n : ℕ) → ((m : ℕ) → count_at counts line m ≤ 1048576) → total counts line n ≤ 1048576 * n
unfolding total
total_small counts line zero small = omega arith
total_small counts line (suc n) small = omega (arith, total_small counts line n small, small n)

pub total_rises : (counts : List (List ℕ)) (line m more : ℕ) → total counts line m ≤ total counts line (m + more)
unfolding total
total_rises counts line m zero = rw add-zero (omega arith)
total_rises counts line m (suc more) = rw add-suc (omega (arith, total_rises counts line m more))

-- past the last span there are no bytes
pub total_end : (counts : List (List ℕ)) (line n end : ℕ) → end ≡ min (length counts) n → total counts line end ≡ total counts line n
unfolding total
total_end counts line zero end is = let none : end ≡ 0 = omega arith in rw none refl
total_end counts line (suc n) end is = elim (cases_lt n (length counts)) [
  | inl within ↦ let all : end ≡ suc n = omega arith in rw all refl
  | inr past ↦
      let none = ap (λ (x : List ℕ). slice_index x line) (get_or_past counts n [] past) in
      omega (arith, total_end counts line n end (omega arith))
]
