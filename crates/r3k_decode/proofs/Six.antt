-- A word as its six fields: op, rs, rt, rd, sa and function.
use Rattle.std.proofs.Common.{◌≡◌, ℕ, ◌+◌, ◌*◌, ◌^◌, ◌<◌, arith, ap, ◌∙◌}
use Rattle.std.specs.Prelude.{bit_and}
use Rattle.std.proofs.lemmas.Nat.{and_block, and_mask}
use Rattle.r3k_word.specs.Word.{field_of}

abbrev pub six : ℕ → ℕ → ℕ → ℕ → ℕ → ℕ → ℕ
six op rs rt rd sa function = op * 2 ^ 26 + (rs * 2 ^ 21 + (rt * 2 ^ 16 + (rd * 2 ^ 11 + (sa * 2 ^ 6 + function))))

-- a word is its six fields
pub six_fields : (w : ℕ) → w < 2 ^ 32 → w ≡ six (field_of 31 26 w) (field_of 25 21 w) (field_of 20 16 w) (field_of 15 11 w) (field_of 10 6 w) (field_of 5 0 w)
six_fields w h = omega arith

-- a mask of whole fields, bit by bit
pub six_and : (op rs rt rd sa fn a b c d e f : ℕ) → rs < 2 ^ 5 → rt < 2 ^ 5 → rd < 2 ^ 5 → sa < 2 ^ 5 → fn < 2 ^ 6 → b < 2 ^ 5 → c < 2 ^ 5 → d < 2 ^ 5 → e < 2 ^ 5 → f < 2 ^ 6 → bit_and (six op rs rt rd sa fn) (six a b c d e f) ≡ six (bit_and op a) (bit_and rs b) (bit_and rt c) (bit_and rd d) (bit_and sa e) (bit_and fn f)
six_and op rs rt rd sa fn a b c d e f hrs hrt hrd hsa hfn hb hc hd he hf =
    let m1 = and_block 6 sa e fn f hfn hf in
    let m2 = and_block 11 rd d (sa * 2 ^ 6 + fn) (e * 2 ^ 6 + f) (omega arith) (omega arith) in
    let m3 = and_block 16 rt c (rd * 2 ^ 11 + (sa * 2 ^ 6 + fn)) (d * 2 ^ 11 + (e * 2 ^ 6 + f)) (omega arith) (omega arith) in
    let m4 = and_block 21 rs b (rt * 2 ^ 16 + (rd * 2 ^ 11 + (sa * 2 ^ 6 + fn))) (c * 2 ^ 16 + (d * 2 ^ 11 + (e * 2 ^ 6 + f))) (omega arith) (omega arith) in
    let m5 = and_block 26 op a (rs * 2 ^ 21 + (rt * 2 ^ 16 + (rd * 2 ^ 11 + (sa * 2 ^ 6 + fn)))) (b * 2 ^ 21 + (c * 2 ^ 16 + (d * 2 ^ 11 + (e * 2 ^ 6 + f)))) (omega arith) (omega arith) in
    m5 ∙ ap (λ (n : ℕ). bit_and op a * 2 ^ 26 + n) (m4 ∙ ap (λ (n : ℕ). bit_and rs b * 2 ^ 21 + n) (m3 ∙ ap (λ (n : ℕ). bit_and rt c * 2 ^ 16 + n) (m2 ∙ ap (λ (n : ℕ). bit_and rd d * 2 ^ 11 + n) m1)))

-- a field under its whole mask
pub whole_5 : (n : ℕ) → n < 2 ^ 5 → bit_and n 31 ≡ n
whole_5 n h = and_mask n 5 ∙ omega arith

pub whole_6 : (n : ℕ) → n < 2 ^ 6 → bit_and n 63 ≡ n
whole_6 n h = and_mask n 6 ∙ omega arith
