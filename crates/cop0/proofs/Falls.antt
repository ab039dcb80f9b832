-- Random takes 56 values in turn.
use Rattle.std.proofs.Common.{◌≡◌, ℕ, zero, suc, ◌+◌, ◌-◌, ◌%◌, ◌≤◌, arith}
use Rattle.std.proofs.lemmas.Bool.Decides.{nat_tests}
use Rattle.cop0.specs.Changes.{random_below, random_after}

one_more : (n random later : ℕ) → 8 ≤ random → random ≤ 63 → later ≡ 8 + (random - 8 + (56 - n % 56)) % 56
    → random_below later ≡ 8 + (random - 8 + (56 - suc n % 56)) % 56
one_more n random later least most is = grind (arith, nat_tests)

pub random_after_is : (n random : ℕ) → 8 ≤ random → random ≤ 63
    → random_after n random ≡ 8 + (random - 8 + (56 - n % 56)) % 56
unfolding random_after
random_after_is zero random least most = omega arith
random_after_is (suc n) random least most = one_more n random (random_after n random) least most (random_after_is n random least most)
