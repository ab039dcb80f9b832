-- Laws of bit fields over plain numbers.
use Rattle.std.proofs.Common.{◌≡◌, ℕ, ◌+◌, ◌-◌, ◌*◌, ◌/◌, ◌%◌, ◌^◌, ◌<◌, ◌≤◌, arith, sym, ap, subst, ◌∙◌}
use Rattle.std.proofs.Math.Path.{ap₂}
use Rattle.std.proofs.Math.Nat.{mod-eq_of_lt, mul_comm}
use Rattle.std.proofs.Math.Pow.{pow_mono}
use Rattle.std.specs.Prelude.{bit_and}
use Rattle.std.proofs.lemmas.Nat.{and_mask, pow-add, shr_split, mod_below, pow_pos, mod-pow-add, shr_below, shl_below, mul-add-lt}
use Rattle.std.proofs.lemmas.Nat.Bits.{ones_shr}
use Rattle.r3k_word.specs.Word.{field_of, with_field_of}

-- a shift and a mask give the field
pub field_by_mask : (high low word : ℕ) → low ≤ high → high ≤ 31 → bit_and (word / 2 ^ low) (4294967295 / 2 ^ (31 - (high - low))) ≡ field_of high low word
field_by_mask high low word a b =
    ap (λ m. bit_and (word / 2 ^ low) m) (ones_shr 32 (31 - (high - low)) (omega arith))
    ∙ (and_mask (word / 2 ^ low) (32 - (31 - (high - low))) ∙ ap (λ k. word / 2 ^ low % 2 ^ k) (omega arith))

-- a field fits its width
pub field_fits : (high low word : ℕ) → field_of high low word < 2 ^ (high + 1 - low)
field_fits high low word = mod_below (word / 2 ^ low) (2 ^ (high + 1 - low)) (pow_pos (high + 1 - low))

-- a word by what stands above a field, in it and below it
pub parts : (high low word : ℕ) → low ≤ high → word ≡ word / 2 ^ (high + 1) * 2 ^ (high + 1) + (field_of high low word * 2 ^ low + word % 2 ^ low)
parts high low word a =
    sym (shr_split word (high + 1))
    ∙ ap (λ m. word / 2 ^ (high + 1) * 2 ^ (high + 1) + m)
    (ap (λ k. word % 2 ^ k) (let e : high + 1 ≡ (high + 1 - low) + low = omega arith in e) ∙ mod-pow-add word (high + 1 - low) low)

-- what is above and below a field stays, and the field is replaced
pub replaced : (high low word value : ℕ) → low ≤ high → word - field_of high low word * 2 ^ low + value * 2 ^ low ≡ with_field_of high low word value
replaced high low word value a =
    omega (arith, parts high low word a)

-- what fits a field stays below the field's end where it stands
pub placed_below : (high low value : ℕ) → low ≤ high → value < 2 ^ (high + 1 - low) → value * 2 ^ low < 2 ^ (high + 1)
placed_below high low value a b =
    subst (λ (k : ℕ). value * 2 ^ low < 2 ^ k) (let e : (high + 1 - low) + low ≡ high + 1 = omega arith in e) (shl_below value (high + 1 - low) low b)

-- what fits a field is no more than a word where it stands
pub placed_fits : (high low value : ℕ) → low ≤ high → high ≤ 31 → value < 2 ^ (high + 1 - low) → value * 2 ^ low < 2 ^ 32
placed_fits high low value a b c =
    let below = placed_below high low value a c in
    let most : 2 ^ (high + 1) ≤ 2 ^ 32 = pow_mono {i = high + 1} {j = 32} (omega arith) in
    omega (arith, below, most)

-- a number of two parts fits
pub two_parts : (j k a r : ℕ) → a < 2 ^ j → r < 2 ^ k → a * 2 ^ k + r < 2 ^ (j + k)
two_parts j k a r p q = subst (λ (n : ℕ). a * 2 ^ k + r < n) (mul_comm (2 ^ k) (2 ^ j) ∙ sym (pow-add 2 j k)) (mul-add-lt a (2 ^ k) r (2 ^ j) p q)

-- the word with a field replaced is a word
pub with_field_fits : (high low word value : ℕ) → low ≤ high → high ≤ 31 → word < 2 ^ 32 → value < 2 ^ (high + 1 - low) → with_field_of high low word value < 2 ^ 32
with_field_fits high low word value a b w v =
    let top : word / 2 ^ (high + 1) < 2 ^ (31 - high) = shr_below word (31 - high) (high + 1) (subst (λ (k : ℕ). word < 2 ^ k) (let e : 32 ≡ (31 - high) + (high + 1) = omega arith in e) w) in
    let low_part : value * 2 ^ low + word % 2 ^ low < 2 ^ (high + 1) = subst (λ (k : ℕ). value * 2 ^ low + word % 2 ^ low < 2 ^ k) (let e : (high + 1 - low) + low ≡ high + 1 = omega arith in e) (two_parts (high + 1 - low) low value (word % 2 ^ low) v (mod_below word (2 ^ low) (pow_pos low))) in
    let whole : word / 2 ^ (high + 1) * 2 ^ (high + 1) + (value * 2 ^ low + word % 2 ^ low) < 2 ^ ((31 - high) + (high + 1)) = two_parts (31 - high) (high + 1) (word / 2 ^ (high + 1)) (value * 2 ^ low + word % 2 ^ low) top low_part in
    let bits : (31 - high) + (high + 1) ≡ 32 = omega arith in
    let width : 2 ^ ((31 - high) + (high + 1)) ≡ 2 ^ 32 = ap (λ (k : ℕ). 2 ^ k) bits in
    omega (arith, whole, width)

-- what the code computes, where a shift could lose bits and loses none
pub replaced_by_code : (high low word value field : ℕ) → low ≤ high → high ≤ 31 → field ≡ field_of high low word → value < 2 ^ (high + 1 - low) → word - field * 2 ^ low % 4294967296 + value * 2 ^ low % 4294967296 ≡ with_field_of high low word value
replaced_by_code high low word value field a b f v =
    let old : field * 2 ^ low < 4294967296 = placed_fits high low field a b (subst (λ (n : ℕ). n < 2 ^ (high + 1 - low)) (sym f) (field_fits high low word)) in
    let new : value * 2 ^ low < 4294967296 = placed_fits high low value a b v in
    ap₂ (λ m n. word - m + n) (mod-eq_of_lt old) (mod-eq_of_lt new) ∙ (ap (λ n. word - n * 2 ^ low + value * 2 ^ low) f ∙ replaced high low word value a)
