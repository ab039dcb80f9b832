-- A field reads what was written into it, and every other field stays.
use Rattle.std.proofs.Common.{◌≡◌, ℕ, ◌+◌, ◌-◌, ◌*◌, ◌/◌, ◌%◌, ◌^◌, ◌<◌, ◌≤◌, arith, sym, ap, subst, ◌∙◌}
use Rattle.std.proofs.Math.Nat.{mul_assoc}
use Rattle.std.proofs.Math.Pow.{mod-mod-pow}
use Rattle.std.proofs.lemmas.Nat.{pow-add, shr-shr, shr_high, mod_low, mod_below, pow_pos, field_of as cut_field}
use Rattle.r3k_word.specs.Word.{field_of, with_field_of}
use Rattle.r3k_word.proofs.Fields.{two_parts}

-- a word with a field replaced, as what is above the field's start and what is below it
by_start : (high low word value : ℕ) → low ≤ high → with_field_of high low word value ≡ (word / 2 ^ (high + 1) * 2 ^ (high + 1 - low) + value) * 2 ^ low + word % 2 ^ low
by_start high low word value a =
    let split : 2 ^ (high + 1) ≡ 2 ^ (high + 1 - low) * 2 ^ low = ap (λ (k : ℕ). 2 ^ k) (let e : high + 1 ≡ (high + 1 - low) + low = omega arith in e) ∙ pow-add 2 (high + 1 - low) low in
    let moved : word / 2 ^ (high + 1) * 2 ^ (high + 1) ≡ word / 2 ^ (high + 1) * 2 ^ (high + 1 - low) * 2 ^ low = ap (λ (k : ℕ). word / 2 ^ (high + 1) * k) split ∙ sym (mul_assoc (word / 2 ^ (high + 1)) (2 ^ (high + 1 - low)) (2 ^ low)) in
    omega (arith, moved)

pub written : (high low word value : ℕ) → low ≤ high → value < 2 ^ (high + 1 - low) → field_of high low (with_field_of high low word value) ≡ value
written high low word value a v =
    ap (λ (n : ℕ). n / 2 ^ low % 2 ^ (high + 1 - low)) (by_start high low word value a)
    ∙ (ap (λ (n : ℕ). n % 2 ^ (high + 1 - low)) (shr_high (word / 2 ^ (high + 1) * 2 ^ (high + 1 - low) + value) low (word % 2 ^ low) (mod_below word (2 ^ low) (pow_pos low)))
    ∙ mod_low (word / 2 ^ (high + 1)) (high + 1 - low) value v)

-- what is above a field stays
upper : (high low word value : ℕ) → low ≤ high → value < 2 ^ (high + 1 - low) → with_field_of high low word value / 2 ^ (high + 1) ≡ word / 2 ^ (high + 1)
upper high low word value a v =
    let rest : value * 2 ^ low + word % 2 ^ low < 2 ^ (high + 1) = subst (λ (k : ℕ). value * 2 ^ low + word % 2 ^ low < 2 ^ k) (let e : (high + 1 - low) + low ≡ high + 1 = omega arith in e) (two_parts (high + 1 - low) low value (word % 2 ^ low) v (mod_below word (2 ^ low) (pow_pos low))) in
    ap (λ (n : ℕ). n / 2 ^ (high + 1)) (let e : with_field_of high low word value ≡ word / 2 ^ (high + 1) * 2 ^ (high + 1) + (value * 2 ^ low + word % 2 ^ low) = omega arith in e)
    ∙ shr_high (word / 2 ^ (high + 1)) (high + 1) (value * 2 ^ low + word % 2 ^ low) rest

pub above : (high low top bottom word value : ℕ) → low ≤ high → value < 2 ^ (high + 1 - low) → high < bottom → field_of top bottom (with_field_of high low word value) ≡ field_of top bottom word
above high low top bottom word value a v b =
    let from : (n : ℕ) → n / 2 ^ (high + 1) / 2 ^ (bottom - (high + 1)) ≡ n / 2 ^ bottom = λ n. shr-shr n (high + 1) (bottom - (high + 1)) ∙ ap (λ (k : ℕ). n / 2 ^ k) (omega arith) in
    ap (λ (n : ℕ). n % 2 ^ (top + 1 - bottom))
    (sym (from (with_field_of high low word value)) ∙ (ap (λ (n : ℕ). n / 2 ^ (bottom - (high + 1))) (upper high low word value a v) ∙ from word))

-- a field by the bits up to its end
by_end : (top bottom word : ℕ) → bottom ≤ top → field_of top bottom word ≡ word % 2 ^ (top + 1) / 2 ^ bottom
by_end top bottom word b =
    sym (cut_field word (top + 1 - bottom) bottom) ∙ ap (λ (k : ℕ). word % 2 ^ k / 2 ^ bottom) (omega arith)

pub below : (high low top bottom word value : ℕ) → low ≤ high → bottom ≤ top → top < low → field_of top bottom (with_field_of high low word value) ≡ field_of top bottom word
below high low top bottom word value a b t =
    let shorter : (n : ℕ) → n % 2 ^ low % 2 ^ (top + 1) ≡ n % 2 ^ (top + 1) = λ n. ap (λ (k : ℕ). n % 2 ^ k % 2 ^ (top + 1)) (let e : low ≡ (low - (top + 1)) + (top + 1) = omega arith in e) ∙ mod-mod-pow n (low - (top + 1)) (top + 1) in
    let lower : with_field_of high low word value % 2 ^ low ≡ word % 2 ^ low = ap (λ (n : ℕ). n % 2 ^ low) (by_start high low word value a) ∙ mod_low (word / 2 ^ (high + 1) * 2 ^ (high + 1 - low) + value) low (word % 2 ^ low) (mod_below word (2 ^ low) (pow_pos low)) in
    by_end top bottom (with_field_of high low word value) b
    ∙ (ap (λ (n : ℕ). n / 2 ^ bottom) (sym (shorter (with_field_of high low word value)) ∙ (ap (λ (n : ℕ). n % 2 ^ (top + 1)) lower ∙ shorter word))
    ∙ sym (by_end top bottom word b))
