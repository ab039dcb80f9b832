-- Flags and their enables stand at the same bits: one mask tests all three.
use Rattle.std.proofs.Common.{◌≡◌, ℕ, zero, suc, ◌+◌, ◌*◌, ◌/◌, ◌%◌, ◌^◌, ◌<◌, Bool, true, false, not, ◌&&◌, ◌||◌, ◌⊎◌, inl, inr, arith, sym, ap, refl, ◌∙◌, bit_and}
use Rattle.std.specs.Prelude.{nat_eq, min}
use Rattle.std.specs.Int.{bit_at}
use Rattle.std.proofs.Math.Logic.{⊎_elim}
use Rattle.std.proofs.Math.Path.{ap₂}
use Rattle.std.proofs.lemmas.Bool.{ne_eqb, eq-eqb}
use Rattle.std.proofs.lemmas.Nat.{pow_pos, and_mod}
use Rattle.std.specs.Int.Bits.{and_zero_l, and_zero_r}
use Rattle.std.proofs.lemmas.Nat.Bits.{bit_at_and, bit_at-lt, and_pow, and_high}
use Rattle.r3k_word.specs.Word.{has}

-- a bit is 0 or 1
bit_cases : (n : ℕ) → n < 2 → (n ≡ 0) ⊎ (n ≡ 1)
bit_cases zero small = inl refl
bit_cases (suc zero) small = inr refl
bit_cases (suc (suc n)) small = absurd (omega arith)

-- the test of a bit by its mask
abbrev test : ℕ → Bool
test n = not (nat_eq n 0)

clear : (mask : ℕ) → test (0 * mask) ≡ false
clear mask = ap not (eq-eqb (0 * mask) 0 (omega arith))

set : (mask : ℕ) → 0 < mask → test (1 * mask) ≡ true
set mask above = ap not (ne_eqb (1 * mask) 0 (omega arith))

-- both of two bits
both : (x y mask : ℕ) → 0 < mask → x < 2 → y < 2 → test (min x y * mask) ≡ (test (x * mask) && test (y * mask))
both x y mask above a b =
    ⊎_elim
    (λ (p : x ≡ 0). ⊎_elim
    (λ (q : y ≡ 0). rw (p, q, clear mask) refl)
    (λ (q : y ≡ 1). rw (p, q, clear mask) refl) (bit_cases y b))
    (λ (p : x ≡ 1). ⊎_elim
    (λ (q : y ≡ 0). rw (p, q, clear mask, set mask above) refl)
    (λ (q : y ≡ 1). rw (p, q, set mask above) refl) (bit_cases y b))
    (bit_cases x a)

-- both of two bytes have a bit
has_both : (a b k : ℕ) → has (bit_and a b) (2 ^ k) ≡ (has a (2 ^ k) && has b (2 ^ k))
has_both a b k =
    ap test (and_pow (bit_and a b) k ∙ ap (λ n. n * 2 ^ k) (bit_at_and a b k))
    ∙ (both (bit_at a k) (bit_at b k) (2 ^ k) (pow_pos k) (bit_at-lt a k) (bit_at-lt b k)
    ∙ ap₂ (λ x y. test x && test y) (sym (and_pow a k)) (sym (and_pow b k)))

-- any of three bits
any : (x y z : ℕ) → x < 2 → y < 2 → z < 2
    → test (x * 64 + y * 32 + z * 16) ≡ (test (x * 64) || test (y * 32) || test (z * 16))
any x y z a b d =
    ⊎_elim
    (λ (p : x ≡ 0). ⊎_elim
    (λ (q : y ≡ 0). ⊎_elim (λ (r : z ≡ 0). rw (p, q, r) refl) (λ (r : z ≡ 1). rw (p, q, r) refl) (bit_cases z d))
    (λ (q : y ≡ 1). ⊎_elim (λ (r : z ≡ 0). rw (p, q, r) refl) (λ (r : z ≡ 1). rw (p, q, r) refl) (bit_cases z d))
    (bit_cases y b))
    (λ (p : x ≡ 1). ⊎_elim
    (λ (q : y ≡ 0). ⊎_elim (λ (r : z ≡ 0). rw (p, q, r) refl) (λ (r : z ≡ 1). rw (p, q, r) refl) (bit_cases z d))
    (λ (q : y ≡ 1). ⊎_elim (λ (r : z ≡ 0). rw (p, q, r) refl) (λ (r : z ≡ 1). rw (p, q, r) refl) (bit_cases z d))
    (bit_cases y b))
    (bit_cases x a)

-- the byte has any of the three bits
has_any : (n : ℕ) → has n 112 ≡ (has n 64 || has n 32 || has n 16)
has_any n =
    let parts : bit_at n 6 * 64 + bit_at n 5 * 32 + bit_at n 4 * 16 ≡ (n / 16 % 8) * 16 = omega arith in
    ap test (and_high n 3 4 ∙ sym parts)
    ∙ (any (bit_at n 6) (bit_at n 5) (bit_at n 4) (bit_at-lt n 6) (bit_at-lt n 5) (bit_at-lt n 4)
    ∙ (ap (λ t. test t || test (bit_at n 5 * 32) || test (bit_at n 4 * 16)) (sym (and_pow n 6))
    ∙ ap₂ (λ t u. has n 64 || test t || test u) (sym (and_pow n 5)) (sym (and_pow n 4))))

-- the mask of the three flags tests each flag with its enable
pub requested : (flags b : ℕ)
    → not (nat_eq (bit_and (bit_and flags b) 112) 0)
    ≡ ((has flags 64 && has b 64) || (has flags 32 && has b 32) || (has flags 16 && has b 16))
requested flags b =
    has_any (bit_and flags b)
    ∙ (ap (λ t. t || has (bit_and flags b) 32 || has (bit_and flags b) 16) (has_both flags b 6)
    ∙ ap₂ (λ t u. (has flags 64 && has b 64) || t || u) (has_both flags b 5) (has_both flags b 4))

-- what is left of a byte without daylight saving is even, also without UIE
pub even : (byte : ℕ) → bit_and byte 254 % 2 ≡ 0
even byte = and_mod byte 254 1 ∙ and_zero_r (byte % 2)

pub still_even : (byte : ℕ) → bit_and (bit_and byte 254) 239 % 2 ≡ 0
still_even byte = and_mod (bit_and byte 254) 239 1 ∙ (ap (λ n. bit_and n 1) (even byte) ∙ and_zero_l 1)
