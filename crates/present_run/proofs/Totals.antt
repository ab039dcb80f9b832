-- How many bytes of a line the first n records sent together.
use Rattle.std.proofs.Common.{◌≡◌, ℕ, zero, suc, ◌+◌, ◌-◌, ◌<◌, ◌≤◌, List, length, min, refl, subst, arith}
use Rattle.std.proofs.Math.Path.{ap₂}
use Rattle.span_fact.specs.Span.{Span}
use Rattle.console_index.specs.Counts.{total}
use Rattle.console_index.proofs.Sums.{total_end, total_rises}
use Rattle.checkpoints.specs.Kept.{first_at}
use Rattle.present_run.specs.Index.{Has, Index, sent_below}

pub totals : (pages span : ℕ) (index : Index) (spans : List (List Span)) (line n : ℕ) → line ≤ 3
    → ((i : ℕ) → i < n → Has pages span index i (first_at spans i)) → total index.consoles line n ≡ sent_below pages span spans line n
unfolding total sent_below
totals pages span index spans line zero known has = refl
totals pages span index spans line (suc i) known has =
    ap₂ (λ (a b : ℕ). a + b) (totals pages span index spans line i known (λ k below. has k (omega (arith, below))))
    ((has i (omega arith)).sent line known)

-- more spans have at least as many bytes, and missing ones have none
pub total_rise : (counts : List (List ℕ)) (line a b : ℕ) → a ≤ b → total counts line a ≤ total counts line b
total_rise counts line a b low =
    subst (λ (n : ℕ). total counts line a ≤ total counts line n) (let e : a + (b - a) ≡ b = omega (arith, low) in e) (total_rises counts line a (b - a))

pub total_most : (counts : List (List ℕ)) (line n : ℕ) → total counts line n ≤ total counts line (length counts)
total_most counts line n = omega (arith, total_end counts line n (min (length counts) n) refl, total_rise counts line (min (length counts) n) (length counts) (omega arith))
