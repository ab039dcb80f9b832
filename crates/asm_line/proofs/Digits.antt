-- A number is read digit by digit, as far as it counts.
use Rattle.std.proofs.Common.{◌≡◌, ℕ, ◌+◌, ◌*◌, ◌≤◌, min, inl, inr, ap, ◌∙◌, arith}
use Rattle.std.proofs.Math.Nat.{mul-le-mul_left}
use Rattle.std.proofs.lemmas.Bool.{cases_lt}

-- one more digit
pub min-more : (n base d most : ℕ) → 1 ≤ base → min (min n most * base + d) most ≡ min (n * base + d) most
min-more n base d most least =
    elim (cases_lt n most) [
      | inl below ↦ ap (λ (k : ℕ). min (k * base + d) most) (let e : min n most ≡ n = omega arith in e)
      | inr above ↦
          let all : min n most ≡ most = omega arith in
          let low : most ≤ most * base = let h = mul-le-mul_left most least in omega (arith, h) in
          let high : n ≤ n * base = let h = mul-le-mul_left n least in omega (arith, h) in
          ap (λ (k : ℕ). min (k * base + d) most) all ∙ (let e : min (most * base + d) most ≡ min (n * base + d) most = omega (arith, low, high) in e)
    ]
