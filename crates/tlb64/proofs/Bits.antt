-- Taking the lowest bit out of a number.
use Rattle.std.proofs.Common.{◌≡◌, ℕ, ◌+◌, ◌-◌, ◌*◌, ◌/◌, ◌%◌, ◌^◌, ◌<◌, ◌≤◌, inl}
use Rattle.std.proofs.Common.{inr, arith, sym, ap, subst, ◌∙◌}
use Rattle.std.specs.Prelude.{bit_and}
use Rattle.std.specs.Int.{bit_at}
use Rattle.std.proofs.Math.Nat.{mul_assoc, add-mul, eq-or-lt_of_le}
use Rattle.std.proofs.lemmas.Nat.{pow-add, shr_split, mod_below, pow_pos}
use Rattle.std.proofs.lemmas.Nat.Bits.{bit_at_and, bit_at-zero, bit_at_above, bit_at_cat_low}
use Rattle.std.proofs.lemmas.Nat.Bits.{bit_at_cat_high, same_from_bits_below}

-- no bit below a place: nothing is left below it
low-zero : (n z : ℕ) → ((i : ℕ) → i < z → bit_at n i ≡ 0) → n % 2 ^ z ≡ 0
low-zero n z none =
    same_from_bits_below z (n % 2 ^ z) 0 (mod_below n (2 ^ z) (pow_pos z)) (pow_pos z)
    (λ i below.
    sym (bit_at_cat_low (n / 2 ^ z) z (n % 2 ^ z) i below)
    ∙ (ap (λ k. bit_at k i) (shr_split n z) ∙ (none i below ∙ sym (bit_at-zero i))))

-- a number by its lowest bit
by-lowest : (n z : ℕ) → bit_at n z ≡ 1 → ((i : ℕ) → i < z → bit_at n i ≡ 0)
    → n ≡ n / 2 ^ z / 2 * 2 ^ (z + 1) + 2 ^ z
by-lowest n z one none =
    let odd : n / 2 ^ z ≡ n / 2 ^ z / 2 * 2 + 1 = omega arith in
    let low = low-zero n z none in
    let split = shr_split n z in
    let power : 2 * 2 ^ z ≡ 2 ^ (z + 1) = omega (arith, pow-add 2 z 1) in
    let moved = mul_assoc (n / 2 ^ z / 2) 2 (2 ^ z) ∙ ap (λ k. n / 2 ^ z / 2 * k) power in
    let joined : n / 2 ^ z * 2 ^ z ≡ (n / 2 ^ z / 2 * 2 + 1) * 2 ^ z = ap (λ k. k * 2 ^ z) odd in
    let apart = add-mul (n / 2 ^ z / 2 * 2) 1 (2 ^ z) in
    omega (arith, low, split, moved, joined, apart)

-- the number before it
one-less : (n z : ℕ) → bit_at n z ≡ 1 → ((i : ℕ) → i < z → bit_at n i ≡ 0)
    → n - 1 ≡ n / 2 ^ z / 2 * 2 ^ (z + 1) + (2 ^ z - 1)
one-less n z one none = omega (arith, by-lowest n z one none, pow_pos z)

cleared-lowest : (n z : ℕ) → bit_at n z ≡ 1 → ((i : ℕ) → i < z → bit_at n i ≡ 0)
    → bit_at (bit_and n (n - 1)) z ≡ 0
cleared-lowest n z one none =
    let fits : 2 ^ z - 1 < 2 ^ (z + 1) = omega (arith, pow-add 2 z 1, pow_pos z) in
    let bit : bit_at (n - 1) z ≡ 0 =
    ap (λ k. bit_at k z) (one-less n z one none)
    ∙ (bit_at_cat_low (n / 2 ^ z / 2) (z + 1) (2 ^ z - 1) z (omega arith)
    ∙ bit_at_above (2 ^ z - 1) z z (omega (arith, pow_pos z)) (omega arith)) in
    omega (arith, bit_at_and n (n - 1) z, bit)

cleared-below : (n z i : ℕ) → ((i : ℕ) → i < z → bit_at n i ≡ 0) → i < z
    → bit_at (bit_and n (n - 1)) i ≡ 0
cleared-below n z i none below = omega (arith, bit_at_and n (n - 1) i, none i below)

pub cleared-above : (n z i : ℕ) → bit_at n z ≡ 1 → ((i : ℕ) → i < z → bit_at n i ≡ 0) → z < i
    → bit_at (bit_and n (n - 1)) i ≡ bit_at n i
cleared-above n z i one none above =
    let q = n / 2 ^ z / 2 in
    let fits : 2 ^ z < 2 ^ (z + 1) = omega (arith, pow-add 2 z 1, pow_pos z) in
    let bit : bit_at (n - 1) i ≡ bit_at n i =
    ap (λ k. bit_at k i) (one-less n z one none)
    ∙ (bit_at_cat_high q (z + 1) (2 ^ z - 1) i (omega arith) (omega arith)
    ∙ (sym (bit_at_cat_high q (z + 1) (2 ^ z) i fits (omega arith))
    ∙ sym (ap (λ k. bit_at k i) (by-lowest n z one none)))) in
    omega (arith, bit_at_and n (n - 1) i, bit)

-- none is left up to it
pub cleared-upto : (n z i : ℕ) → bit_at n z ≡ 1 → ((i : ℕ) → i < z → bit_at n i ≡ 0) → i ≤ z
    → bit_at (bit_and n (n - 1)) i ≡ 0
cleared-upto n z i one none upto = elim (eq-or-lt_of_le upto) [
  | inl same ↦ subst (λ (k : ℕ). bit_at (bit_and n (n - 1)) k ≡ 0) (sym same)
      (cleared-lowest n z one none)
  | inr below ↦ cleared-below n z i none below
]
