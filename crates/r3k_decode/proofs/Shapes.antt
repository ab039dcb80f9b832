-- For each shape: its mask keeps what no operand uses, and its fields are read where they were placed.
use Rattle.std.proofs.Common.{◌≡◌, ℕ, ◌+◌, ◌^◌, ◌<◌, Bool, true, false, cond, ◌||◌, arith, sym, ap, ◌∙◌}
use Rattle.std.specs.Prelude.{bit_and}
use Rattle.std.specs.Int.Bits.{and_zero_r}
use Rattle.r3k_word.specs.Word.{field_of}
use Rattle.r3k_table.specs.Fields.{fields_of}
use Rattle.r3k_table.specs.declared.row.Shape.{Shape}
use Rattle.r3k_table.specs.declared.row.Shape.TheVariants.{A, B, C, D, E, F, G, H, I, K, L, M, N, O, P, Q, Z}
use Rattle.r3k_decode.specs.Operation.{Operation, read_as, placed, IsZeroElsewhere, FitsFields}
use Rattle.r3k_decode.proofs.Six.{six, six_fields, six_and, whole_5, whole_6}

-- the places in a word that the fields of the shape take up
abbrev takes_rs : Shape → Bool
takes_rs shape = (fields_of shape).rs || ((fields_of shape).index || (fields_of shape).code)

abbrev takes_rt : Shape → Bool
takes_rt shape = (fields_of shape).rt || ((fields_of shape).index || (fields_of shape).code)

abbrev takes_rd : Shape → Bool
takes_rd shape = (fields_of shape).rd || ((fields_of shape).imm || ((fields_of shape).index || (fields_of shape).code))

abbrev takes_sa : Shape → Bool
takes_sa shape = (fields_of shape).sa || ((fields_of shape).imm || ((fields_of shape).index || (fields_of shape).code))

abbrev takes_function : Shape → Bool
takes_function shape = (fields_of shape).imm || (fields_of shape).index

-- what a place holds, where no field takes it
abbrev free : Bool → ℕ → ℕ
free taken n = cond taken 0 n

-- the bits that no operand of the shape uses
abbrev pub mask_of : Shape → ℕ
mask_of shape = six 63 (free (takes_rs shape) 31) (free (takes_rt shape) 31) (free (takes_rd shape) 31) (free (takes_sa shape) 31) (free (takes_function shape) 63)

-- each of six fields in its width, but for the first
record Widths (a b c d e : ℕ) : Type 0 where
  rs : a < 2 ^ 5
  rt : b < 2 ^ 5
  rd : c < 2 ^ 5
  sa : d < 2 ^ 5
  fn : e < 2 ^ 6

-- a word of six fields under a shape's mask
abbrev pub under_mask : Shape → ℕ → ℕ → ℕ → ℕ → ℕ → ℕ → ℕ
under_mask shape op rs rt rd sa fn = six op (free (takes_rs shape) rs) (free (takes_rt shape) rt) (free (takes_rd shape) rd) (free (takes_sa shape) sa) (free (takes_function shape) fn)

free_below : (taken : Bool) (n m : ℕ) → n < m → free taken n < m
free_below true n m h = omega arith
free_below false n m h = h

free_5 : (taken : Bool) (n : ℕ) → n < 2 ^ 5 → bit_and n (free taken 31) ≡ free taken n
free_5 true n h = and_zero_r n
free_5 false n h = whole_5 n h

free_6 : (taken : Bool) (n : ℕ) → n < 2 ^ 6 → bit_and n (free taken 63) ≡ free taken n
free_6 true n h = and_zero_r n
free_6 false n h = whole_6 n h

masked : (shape : Shape) (op rs rt rd sa fn : ℕ) → op < 2 ^ 6 → Widths rs rt rd sa fn → bit_and (six op rs rt rd sa fn) (mask_of shape) ≡ under_mask shape op rs rt rd sa fn
masked shape op rs rt rd sa fn o w =
    let a = takes_rs shape in
    let b = takes_rt shape in
    let c = takes_rd shape in
    let d = takes_sa shape in
    let e = takes_function shape in
    six_and op rs rt rd sa fn 63 (free a 31) (free b 31) (free c 31) (free d 31) (free e 63) w.rs w.rt w.rd w.sa w.fn (free_below a 31 (2 ^ 5) (omega arith)) (free_below b 31 (2 ^ 5) (omega arith)) (free_below c 31 (2 ^ 5) (omega arith)) (free_below d 31 (2 ^ 5) (omega arith)) (free_below e 63 (2 ^ 6) (omega arith))
    ∙ λ i. six (whole_6 op o i) (free_5 a rs w.rs i) (free_5 b rt w.rt i) (free_5 c rd w.rd i) (free_5 d sa w.sa i) (free_6 e fn w.fn i)

-- the fields of any word have their widths
widths : (w : ℕ) → Widths (field_of 25 21 w) (field_of 20 16 w) (field_of 15 11 w) (field_of 10 6 w) (field_of 5 0 w)
widths w = record { rs = omega arith; rt = omega arith; rd = omega arith; sa = omega arith; fn = omega arith }

-- any word under a shape's mask
masked_word : (shape : Shape) (w : ℕ) → w < 2 ^ 32 → bit_and w (mask_of shape) ≡ under_mask shape (field_of 31 26 w) (field_of 25 21 w) (field_of 20 16 w) (field_of 15 11 w) (field_of 10 6 w) (field_of 5 0 w)
masked_word shape w h =
    ap (λ (n : ℕ). bit_and n (mask_of shape)) (six_fields w h)
    ∙ masked shape (field_of 31 26 w) (field_of 25 21 w) (field_of 20 16 w) (field_of 15 11 w) (field_of 10 6 w) (field_of 5 0 w) (omega arith) (widths w)

-- A row's value lies under its mask: beside it the fields of an instruction find their places free.
pub whole : (shape : Shape) (v : ℕ) (i : Operation) → v < 2 ^ 32 → bit_and v (mask_of shape) ≡ v → FitsFields i → bit_and (v + placed shape i) (mask_of shape) ≡ v
whole A v i h e f =
    let own : v ≡ six (field_of 31 26 v) (field_of 25 21 v) 0 0 0 (field_of 5 0 v) = sym e ∙ masked_word A v h in
    ap (λ (n : ℕ). bit_and n (mask_of A)) (let s : v + placed A i ≡ six (field_of 31 26 v) (field_of 25 21 v) i.rt i.rd i.sa (field_of 5 0 v) = omega (arith, own) in s)
    ∙ (masked A (field_of 31 26 v) (field_of 25 21 v) i.rt i.rd i.sa (field_of 5 0 v) (omega arith) (record { rs = omega arith; rt = f.rt; rd = f.rd; sa = f.sa; fn = omega arith }) ∙ sym own)
whole B v i h e f =
    let own : v ≡ six (field_of 31 26 v) 0 0 0 (field_of 10 6 v) (field_of 5 0 v) = sym e ∙ masked_word B v h in
    ap (λ (n : ℕ). bit_and n (mask_of B)) (let s : v + placed B i ≡ six (field_of 31 26 v) i.rs i.rt i.rd (field_of 10 6 v) (field_of 5 0 v) = omega (arith, own) in s)
    ∙ (masked B (field_of 31 26 v) i.rs i.rt i.rd (field_of 10 6 v) (field_of 5 0 v) (omega arith) (record { rs = f.rs; rt = f.rt; rd = f.rd; sa = omega arith; fn = omega arith }) ∙ sym own)
whole C v i h e f =
    let own : v ≡ six (field_of 31 26 v) 0 (field_of 20 16 v) (field_of 15 11 v) (field_of 10 6 v) (field_of 5 0 v) = sym e ∙ masked_word C v h in
    ap (λ (n : ℕ). bit_and n (mask_of C)) (let s : v + placed C i ≡ six (field_of 31 26 v) i.rs (field_of 20 16 v) (field_of 15 11 v) (field_of 10 6 v) (field_of 5 0 v) = omega (arith, own) in s)
    ∙ (masked C (field_of 31 26 v) i.rs (field_of 20 16 v) (field_of 15 11 v) (field_of 10 6 v) (field_of 5 0 v) (omega arith) (record { rs = f.rs; rt = omega arith; rd = omega arith; sa = omega arith; fn = omega arith }) ∙ sym own)
whole D v i h e f =
    let own : v ≡ six (field_of 31 26 v) 0 (field_of 20 16 v) 0 (field_of 10 6 v) (field_of 5 0 v) = sym e ∙ masked_word D v h in
    ap (λ (n : ℕ). bit_and n (mask_of D)) (let s : v + placed D i ≡ six (field_of 31 26 v) i.rs (field_of 20 16 v) i.rd (field_of 10 6 v) (field_of 5 0 v) = omega (arith, own) in s)
    ∙ (masked D (field_of 31 26 v) i.rs (field_of 20 16 v) i.rd (field_of 10 6 v) (field_of 5 0 v) (omega arith) (record { rs = f.rs; rt = omega arith; rd = f.rd; sa = omega arith; fn = omega arith }) ∙ sym own)
whole E v i h e f =
    let own : v ≡ six (field_of 31 26 v) 0 0 0 0 (field_of 5 0 v) = sym e ∙ masked_word E v h in
    ap (λ (n : ℕ). bit_and n (mask_of E)) (let s : v + placed E i ≡ six (field_of 31 26 v) (field_of 19 15 i.code) (field_of 14 10 i.code) (field_of 9 5 i.code) (field_of 4 0 i.code) (field_of 5 0 v) = omega (arith, own, f.code) in s)
    ∙ (masked E (field_of 31 26 v) (field_of 19 15 i.code) (field_of 14 10 i.code) (field_of 9 5 i.code) (field_of 4 0 i.code) (field_of 5 0 v) (omega arith) (record { rs = omega arith; rt = omega arith; rd = omega arith; sa = omega arith; fn = omega arith }) ∙ sym own)
whole F v i h e f =
    let own : v ≡ six (field_of 31 26 v) (field_of 25 21 v) (field_of 20 16 v) 0 (field_of 10 6 v) (field_of 5 0 v) = sym e ∙ masked_word F v h in
    ap (λ (n : ℕ). bit_and n (mask_of F)) (let s : v + placed F i ≡ six (field_of 31 26 v) (field_of 25 21 v) (field_of 20 16 v) i.rd (field_of 10 6 v) (field_of 5 0 v) = omega (arith, own) in s)
    ∙ (masked F (field_of 31 26 v) (field_of 25 21 v) (field_of 20 16 v) i.rd (field_of 10 6 v) (field_of 5 0 v) (omega arith) (record { rs = omega arith; rt = omega arith; rd = f.rd; sa = omega arith; fn = omega arith }) ∙ sym own)
whole G v i h e f =
    let own : v ≡ six (field_of 31 26 v) 0 0 (field_of 15 11 v) (field_of 10 6 v) (field_of 5 0 v) = sym e ∙ masked_word G v h in
    ap (λ (n : ℕ). bit_and n (mask_of G)) (let s : v + placed G i ≡ six (field_of 31 26 v) i.rs i.rt (field_of 15 11 v) (field_of 10 6 v) (field_of 5 0 v) = omega (arith, own) in s)
    ∙ (masked G (field_of 31 26 v) i.rs i.rt (field_of 15 11 v) (field_of 10 6 v) (field_of 5 0 v) (omega arith) (record { rs = f.rs; rt = f.rt; rd = omega arith; sa = omega arith; fn = omega arith }) ∙ sym own)
whole H v i h e f =
    let own : v ≡ six (field_of 31 26 v) 0 0 0 (field_of 10 6 v) (field_of 5 0 v) = sym e ∙ masked_word H v h in
    ap (λ (n : ℕ). bit_and n (mask_of H)) (let s : v + placed H i ≡ six (field_of 31 26 v) i.rs i.rt i.rd (field_of 10 6 v) (field_of 5 0 v) = omega (arith, own) in s)
    ∙ (masked H (field_of 31 26 v) i.rs i.rt i.rd (field_of 10 6 v) (field_of 5 0 v) (omega arith) (record { rs = f.rs; rt = f.rt; rd = f.rd; sa = omega arith; fn = omega arith }) ∙ sym own)
whole I v i h e f =
    let own : v ≡ six (field_of 31 26 v) 0 (field_of 20 16 v) 0 0 0 = sym e ∙ masked_word I v h in
    ap (λ (n : ℕ). bit_and n (mask_of I)) (let s : v + placed I i ≡ six (field_of 31 26 v) i.rs (field_of 20 16 v) (field_of 15 11 i.imm) (field_of 10 6 i.imm) (field_of 5 0 i.imm) = omega (arith, own, f.imm) in s)
    ∙ (masked I (field_of 31 26 v) i.rs (field_of 20 16 v) (field_of 15 11 i.imm) (field_of 10 6 i.imm) (field_of 5 0 i.imm) (omega arith) (record { rs = f.rs; rt = omega arith; rd = omega arith; sa = omega arith; fn = omega arith }) ∙ sym own)
whole K v i h e f =
    let own : v ≡ six (field_of 31 26 v) 0 0 0 0 0 = sym e ∙ masked_word K v h in
    ap (λ (n : ℕ). bit_and n (mask_of K)) (let s : v + placed K i ≡ six (field_of 31 26 v) (field_of 25 21 i.index) (field_of 20 16 i.index) (field_of 15 11 i.index) (field_of 10 6 i.index) (field_of 5 0 i.index) = omega (arith, own, f.index) in s)
    ∙ (masked K (field_of 31 26 v) (field_of 25 21 i.index) (field_of 20 16 i.index) (field_of 15 11 i.index) (field_of 10 6 i.index) (field_of 5 0 i.index) (omega arith) (record { rs = omega arith; rt = omega arith; rd = omega arith; sa = omega arith; fn = omega arith }) ∙ sym own)
whole L v i h e f =
    let own : v ≡ six (field_of 31 26 v) 0 0 0 0 0 = sym e ∙ masked_word L v h in
    ap (λ (n : ℕ). bit_and n (mask_of L)) (let s : v + placed L i ≡ six (field_of 31 26 v) i.rs i.rt (field_of 15 11 i.imm) (field_of 10 6 i.imm) (field_of 5 0 i.imm) = omega (arith, own, f.imm) in s)
    ∙ (masked L (field_of 31 26 v) i.rs i.rt (field_of 15 11 i.imm) (field_of 10 6 i.imm) (field_of 5 0 i.imm) (omega arith) (record { rs = f.rs; rt = f.rt; rd = omega arith; sa = omega arith; fn = omega arith }) ∙ sym own)
whole M v i h e f =
    let own : v ≡ six (field_of 31 26 v) 0 0 0 0 0 = sym e ∙ masked_word M v h in
    ap (λ (n : ℕ). bit_and n (mask_of M)) (let s : v + placed M i ≡ six (field_of 31 26 v) i.rs i.rt (field_of 15 11 i.imm) (field_of 10 6 i.imm) (field_of 5 0 i.imm) = omega (arith, own, f.imm) in s)
    ∙ (masked M (field_of 31 26 v) i.rs i.rt (field_of 15 11 i.imm) (field_of 10 6 i.imm) (field_of 5 0 i.imm) (omega arith) (record { rs = f.rs; rt = f.rt; rd = omega arith; sa = omega arith; fn = omega arith }) ∙ sym own)
whole N v i h e f =
    let own : v ≡ six (field_of 31 26 v) 0 0 0 0 0 = sym e ∙ masked_word N v h in
    ap (λ (n : ℕ). bit_and n (mask_of N)) (let s : v + placed N i ≡ six (field_of 31 26 v) i.rs i.rt (field_of 15 11 i.imm) (field_of 10 6 i.imm) (field_of 5 0 i.imm) = omega (arith, own, f.imm) in s)
    ∙ (masked N (field_of 31 26 v) i.rs i.rt (field_of 15 11 i.imm) (field_of 10 6 i.imm) (field_of 5 0 i.imm) (omega arith) (record { rs = f.rs; rt = f.rt; rd = omega arith; sa = omega arith; fn = omega arith }) ∙ sym own)
whole O v i h e f =
    let own : v ≡ six (field_of 31 26 v) (field_of 25 21 v) 0 0 0 0 = sym e ∙ masked_word O v h in
    ap (λ (n : ℕ). bit_and n (mask_of O)) (let s : v + placed O i ≡ six (field_of 31 26 v) (field_of 25 21 v) i.rt (field_of 15 11 i.imm) (field_of 10 6 i.imm) (field_of 5 0 i.imm) = omega (arith, own, f.imm) in s)
    ∙ (masked O (field_of 31 26 v) (field_of 25 21 v) i.rt (field_of 15 11 i.imm) (field_of 10 6 i.imm) (field_of 5 0 i.imm) (omega arith) (record { rs = omega arith; rt = f.rt; rd = omega arith; sa = omega arith; fn = omega arith }) ∙ sym own)
whole P v i h e f =
    let own : v ≡ six (field_of 31 26 v) 0 0 0 0 0 = sym e ∙ masked_word P v h in
    ap (λ (n : ℕ). bit_and n (mask_of P)) (let s : v + placed P i ≡ six (field_of 31 26 v) i.rs i.rt (field_of 15 11 i.imm) (field_of 10 6 i.imm) (field_of 5 0 i.imm) = omega (arith, own, f.imm) in s)
    ∙ (masked P (field_of 31 26 v) i.rs i.rt (field_of 15 11 i.imm) (field_of 10 6 i.imm) (field_of 5 0 i.imm) (omega arith) (record { rs = f.rs; rt = f.rt; rd = omega arith; sa = omega arith; fn = omega arith }) ∙ sym own)
whole Q v i h e f =
    let own : v ≡ six (field_of 31 26 v) (field_of 25 21 v) 0 0 (field_of 10 6 v) (field_of 5 0 v) = sym e ∙ masked_word Q v h in
    ap (λ (n : ℕ). bit_and n (mask_of Q)) (let s : v + placed Q i ≡ six (field_of 31 26 v) (field_of 25 21 v) i.rt i.rd (field_of 10 6 v) (field_of 5 0 v) = omega (arith, own) in s)
    ∙ (masked Q (field_of 31 26 v) (field_of 25 21 v) i.rt i.rd (field_of 10 6 v) (field_of 5 0 v) (omega arith) (record { rs = omega arith; rt = f.rt; rd = f.rd; sa = omega arith; fn = omega arith }) ∙ sym own)
whole Z v i h e f =
    let own : v ≡ six (field_of 31 26 v) (field_of 25 21 v) (field_of 20 16 v) (field_of 15 11 v) (field_of 10 6 v) (field_of 5 0 v) = sym e ∙ masked_word Z v h in
    ap (λ (n : ℕ). bit_and n (mask_of Z)) (let s : v + placed Z i ≡ six (field_of 31 26 v) (field_of 25 21 v) (field_of 20 16 v) (field_of 15 11 v) (field_of 10 6 v) (field_of 5 0 v) = omega (arith, own) in s)
    ∙ (masked Z (field_of 31 26 v) (field_of 25 21 v) (field_of 20 16 v) (field_of 15 11 v) (field_of 10 6 v) (field_of 5 0 v) (omega arith) (record { rs = omega arith; rt = omega arith; rd = omega arith; sa = omega arith; fn = omega arith }) ∙ sym own)

-- What was placed beside a row's value is read back.
pub read_back : (shape : Shape) (row v : ℕ) (i : Operation) → v < 2 ^ 32 → bit_and v (mask_of shape) ≡ v → FitsFields i → IsZeroElsewhere shape i → row ≡ i.row → read_as row shape (v + placed shape i) ≡ i
read_back A row v i h e f z r =
    let own : v ≡ six (field_of 31 26 v) (field_of 25 21 v) 0 0 0 (field_of 5 0 v) = sym e ∙ masked_word A v h in
    let rt : field_of 20 16 (v + placed A i) ≡ i.rt = omega (arith, own, f.rt, f.rd, f.sa) in
    let rd : field_of 15 11 (v + placed A i) ≡ i.rd = omega (arith, own, f.rt, f.rd, f.sa) in
    let sa : field_of 10 6 (v + placed A i) ≡ i.sa = omega (arith, own, f.rt, f.rd, f.sa) in
    λ k. record { row = r k; rs = sym z.rs k; rt = rt k; rd = rd k; sa = sa k; imm = sym z.imm k; index = sym z.index k; code = sym z.code k }
read_back B row v i h e f z r =
    let own : v ≡ six (field_of 31 26 v) 0 0 0 (field_of 10 6 v) (field_of 5 0 v) = sym e ∙ masked_word B v h in
    let rs : field_of 25 21 (v + placed B i) ≡ i.rs = omega (arith, own, f.rs, f.rt, f.rd) in
    let rt : field_of 20 16 (v + placed B i) ≡ i.rt = omega (arith, own, f.rs, f.rt, f.rd) in
    let rd : field_of 15 11 (v + placed B i) ≡ i.rd = omega (arith, own, f.rs, f.rt, f.rd) in
    λ k. record { row = r k; rs = rs k; rt = rt k; rd = rd k; sa = sym z.sa k; imm = sym z.imm k; index = sym z.index k; code = sym z.code k }
read_back C row v i h e f z r =
    let own : v ≡ six (field_of 31 26 v) 0 (field_of 20 16 v) (field_of 15 11 v) (field_of 10 6 v) (field_of 5 0 v) = sym e ∙ masked_word C v h in
    let rs : field_of 25 21 (v + placed C i) ≡ i.rs = omega (arith, own, f.rs) in
    λ k. record { row = r k; rs = rs k; rt = sym z.rt k; rd = sym z.rd k; sa = sym z.sa k; imm = sym z.imm k; index = sym z.index k; code = sym z.code k }
read_back D row v i h e f z r =
    let own : v ≡ six (field_of 31 26 v) 0 (field_of 20 16 v) 0 (field_of 10 6 v) (field_of 5 0 v) = sym e ∙ masked_word D v h in
    let rs : field_of 25 21 (v + placed D i) ≡ i.rs = omega (arith, own, f.rs, f.rd) in
    let rd : field_of 15 11 (v + placed D i) ≡ i.rd = omega (arith, own, f.rs, f.rd) in
    λ k. record { row = r k; rs = rs k; rt = sym z.rt k; rd = rd k; sa = sym z.sa k; imm = sym z.imm k; index = sym z.index k; code = sym z.code k }
read_back E row v i h e f z r =
    let own : v ≡ six (field_of 31 26 v) 0 0 0 0 (field_of 5 0 v) = sym e ∙ masked_word E v h in
    let code : field_of 25 6 (v + placed E i) ≡ i.code = omega (arith, own, f.code) in
    λ k. record { row = r k; rs = sym z.rs k; rt = sym z.rt k; rd = sym z.rd k; sa = sym z.sa k; imm = sym z.imm k; index = sym z.index k; code = code k }
read_back F row v i h e f z r =
    let own : v ≡ six (field_of 31 26 v) (field_of 25 21 v) (field_of 20 16 v) 0 (field_of 10 6 v) (field_of 5 0 v) = sym e ∙ masked_word F v h in
    let rd : field_of 15 11 (v + placed F i) ≡ i.rd = omega (arith, own, f.rd) in
    λ k. record { row = r k; rs = sym z.rs k; rt = sym z.rt k; rd = rd k; sa = sym z.sa k; imm = sym z.imm k; index = sym z.index k; code = sym z.code k }
read_back G row v i h e f z r =
    let own : v ≡ six (field_of 31 26 v) 0 0 (field_of 15 11 v) (field_of 10 6 v) (field_of 5 0 v) = sym e ∙ masked_word G v h in
    let rs : field_of 25 21 (v + placed G i) ≡ i.rs = omega (arith, own, f.rs, f.rt) in
    let rt : field_of 20 16 (v + placed G i) ≡ i.rt = omega (arith, own, f.rs, f.rt) in
    λ k. record { row = r k; rs = rs k; rt = rt k; rd = sym z.rd k; sa = sym z.sa k; imm = sym z.imm k; index = sym z.index k; code = sym z.code k }
read_back H row v i h e f z r =
    let own : v ≡ six (field_of 31 26 v) 0 0 0 (field_of 10 6 v) (field_of 5 0 v) = sym e ∙ masked_word H v h in
    let rs : field_of 25 21 (v + placed H i) ≡ i.rs = omega (arith, own, f.rs, f.rt, f.rd) in
    let rt : field_of 20 16 (v + placed H i) ≡ i.rt = omega (arith, own, f.rs, f.rt, f.rd) in
    let rd : field_of 15 11 (v + placed H i) ≡ i.rd = omega (arith, own, f.rs, f.rt, f.rd) in
    λ k. record { row = r k; rs = rs k; rt = rt k; rd = rd k; sa = sym z.sa k; imm = sym z.imm k; index = sym z.index k; code = sym z.code k }
read_back I row v i h e f z r =
    let own : v ≡ six (field_of 31 26 v) 0 (field_of 20 16 v) 0 0 0 = sym e ∙ masked_word I v h in
    let rs : field_of 25 21 (v + placed I i) ≡ i.rs = omega (arith, own, f.rs, f.imm) in
    let imm : field_of 15 0 (v + placed I i) ≡ i.imm = omega (arith, own, f.rs, f.imm) in
    λ k. record { row = r k; rs = rs k; rt = sym z.rt k; rd = sym z.rd k; sa = sym z.sa k; imm = imm k; index = sym z.index k; code = sym z.code k }
read_back K row v i h e f z r =
    let own : v ≡ six (field_of 31 26 v) 0 0 0 0 0 = sym e ∙ masked_word K v h in
    let index : field_of 25 0 (v + placed K i) ≡ i.index = omega (arith, own, f.index) in
    λ k. record { row = r k; rs = sym z.rs k; rt = sym z.rt k; rd = sym z.rd k; sa = sym z.sa k; imm = sym z.imm k; index = index k; code = sym z.code k }
read_back L row v i h e f z r =
    let own : v ≡ six (field_of 31 26 v) 0 0 0 0 0 = sym e ∙ masked_word L v h in
    let rs : field_of 25 21 (v + placed L i) ≡ i.rs = omega (arith, own, f.rs, f.rt, f.imm) in
    let rt : field_of 20 16 (v + placed L i) ≡ i.rt = omega (arith, own, f.rs, f.rt, f.imm) in
    let imm : field_of 15 0 (v + placed L i) ≡ i.imm = omega (arith, own, f.rs, f.rt, f.imm) in
    λ k. record { row = r k; rs = rs k; rt = rt k; rd = sym z.rd k; sa = sym z.sa k; imm = imm k; index = sym z.index k; code = sym z.code k }
read_back M row v i h e f z r =
    let own : v ≡ six (field_of 31 26 v) 0 0 0 0 0 = sym e ∙ masked_word M v h in
    let rs : field_of 25 21 (v + placed M i) ≡ i.rs = omega (arith, own, f.rs, f.rt, f.imm) in
    let rt : field_of 20 16 (v + placed M i) ≡ i.rt = omega (arith, own, f.rs, f.rt, f.imm) in
    let imm : field_of 15 0 (v + placed M i) ≡ i.imm = omega (arith, own, f.rs, f.rt, f.imm) in
    λ k. record { row = r k; rs = rs k; rt = rt k; rd = sym z.rd k; sa = sym z.sa k; imm = imm k; index = sym z.index k; code = sym z.code k }
read_back N row v i h e f z r =
    let own : v ≡ six (field_of 31 26 v) 0 0 0 0 0 = sym e ∙ masked_word N v h in
    let rs : field_of 25 21 (v + placed N i) ≡ i.rs = omega (arith, own, f.rs, f.rt, f.imm) in
    let rt : field_of 20 16 (v + placed N i) ≡ i.rt = omega (arith, own, f.rs, f.rt, f.imm) in
    let imm : field_of 15 0 (v + placed N i) ≡ i.imm = omega (arith, own, f.rs, f.rt, f.imm) in
    λ k. record { row = r k; rs = rs k; rt = rt k; rd = sym z.rd k; sa = sym z.sa k; imm = imm k; index = sym z.index k; code = sym z.code k }
read_back O row v i h e f z r =
    let own : v ≡ six (field_of 31 26 v) (field_of 25 21 v) 0 0 0 0 = sym e ∙ masked_word O v h in
    let rt : field_of 20 16 (v + placed O i) ≡ i.rt = omega (arith, own, f.rt, f.imm) in
    let imm : field_of 15 0 (v + placed O i) ≡ i.imm = omega (arith, own, f.rt, f.imm) in
    λ k. record { row = r k; rs = sym z.rs k; rt = rt k; rd = sym z.rd k; sa = sym z.sa k; imm = imm k; index = sym z.index k; code = sym z.code k }
read_back P row v i h e f z r =
    let own : v ≡ six (field_of 31 26 v) 0 0 0 0 0 = sym e ∙ masked_word P v h in
    let rs : field_of 25 21 (v + placed P i) ≡ i.rs = omega (arith, own, f.rs, f.rt, f.imm) in
    let rt : field_of 20 16 (v + placed P i) ≡ i.rt = omega (arith, own, f.rs, f.rt, f.imm) in
    let imm : field_of 15 0 (v + placed P i) ≡ i.imm = omega (arith, own, f.rs, f.rt, f.imm) in
    λ k. record { row = r k; rs = rs k; rt = rt k; rd = sym z.rd k; sa = sym z.sa k; imm = imm k; index = sym z.index k; code = sym z.code k }
read_back Q row v i h e f z r =
    let own : v ≡ six (field_of 31 26 v) (field_of 25 21 v) 0 0 (field_of 10 6 v) (field_of 5 0 v) = sym e ∙ masked_word Q v h in
    let rt : field_of 20 16 (v + placed Q i) ≡ i.rt = omega (arith, own, f.rt, f.rd) in
    let rd : field_of 15 11 (v + placed Q i) ≡ i.rd = omega (arith, own, f.rt, f.rd) in
    λ k. record { row = r k; rs = sym z.rs k; rt = rt k; rd = rd k; sa = sym z.sa k; imm = sym z.imm k; index = sym z.index k; code = sym z.code k }
read_back Z row v i h e f z r =
    λ k. record { row = r k; rs = sym z.rs k; rt = sym z.rt k; rd = sym z.rd k; sa = sym z.sa k; imm = sym z.imm k; index = sym z.index k; code = sym z.code k }

-- A word is the value of its row and its own fields where they stand.
pub placed_again : (shape : Shape) (row v w : ℕ) → w < 2 ^ 32 → bit_and w (mask_of shape) ≡ v → v + placed shape (read_as row shape w) ≡ w
placed_again A row v w h e = let own = masked_word A w h in let all = six_fields w h in omega (arith, e, own, all)
placed_again B row v w h e = let own = masked_word B w h in let all = six_fields w h in omega (arith, e, own, all)
placed_again C row v w h e = let own = masked_word C w h in let all = six_fields w h in omega (arith, e, own, all)
placed_again D row v w h e = let own = masked_word D w h in let all = six_fields w h in omega (arith, e, own, all)
placed_again E row v w h e = let own = masked_word E w h in let all = six_fields w h in omega (arith, e, own, all)
placed_again F row v w h e = let own = masked_word F w h in let all = six_fields w h in omega (arith, e, own, all)
placed_again G row v w h e = let own = masked_word G w h in let all = six_fields w h in omega (arith, e, own, all)
placed_again H row v w h e = let own = masked_word H w h in let all = six_fields w h in omega (arith, e, own, all)
placed_again I row v w h e = let own = masked_word I w h in let all = six_fields w h in omega (arith, e, own, all)
placed_again K row v w h e = let own = masked_word K w h in let all = six_fields w h in omega (arith, e, own, all)
placed_again L row v w h e = let own = masked_word L w h in let all = six_fields w h in omega (arith, e, own, all)
placed_again M row v w h e = let own = masked_word M w h in let all = six_fields w h in omega (arith, e, own, all)
placed_again N row v w h e = let own = masked_word N w h in let all = six_fields w h in omega (arith, e, own, all)
placed_again O row v w h e = let own = masked_word O w h in let all = six_fields w h in omega (arith, e, own, all)
placed_again P row v w h e = let own = masked_word P w h in let all = six_fields w h in omega (arith, e, own, all)
placed_again Q row v w h e = let own = masked_word Q w h in let all = six_fields w h in omega (arith, e, own, all)
placed_again Z row v w h e = let own = masked_word Z w h in let all = six_fields w h in omega (arith, e, own, all)

-- What was placed beside a row's value is a word.
pub below : (shape : Shape) (v : ℕ) (i : Operation) → v < 2 ^ 32 → bit_and v (mask_of shape) ≡ v → FitsFields i → v + placed shape i < 2 ^ 32
below A v i h e f = let own : v ≡ six (field_of 31 26 v) (field_of 25 21 v) 0 0 0 (field_of 5 0 v) = sym e ∙ masked_word A v h in omega (arith, own, f.rt, f.rd, f.sa)
below B v i h e f = let own : v ≡ six (field_of 31 26 v) 0 0 0 (field_of 10 6 v) (field_of 5 0 v) = sym e ∙ masked_word B v h in omega (arith, own, f.rs, f.rt, f.rd)
below C v i h e f = let own : v ≡ six (field_of 31 26 v) 0 (field_of 20 16 v) (field_of 15 11 v) (field_of 10 6 v) (field_of 5 0 v) = sym e ∙ masked_word C v h in omega (arith, own, f.rs)
below D v i h e f = let own : v ≡ six (field_of 31 26 v) 0 (field_of 20 16 v) 0 (field_of 10 6 v) (field_of 5 0 v) = sym e ∙ masked_word D v h in omega (arith, own, f.rs, f.rd)
below E v i h e f = let own : v ≡ six (field_of 31 26 v) 0 0 0 0 (field_of 5 0 v) = sym e ∙ masked_word E v h in omega (arith, own, f.code)
below F v i h e f = let own : v ≡ six (field_of 31 26 v) (field_of 25 21 v) (field_of 20 16 v) 0 (field_of 10 6 v) (field_of 5 0 v) = sym e ∙ masked_word F v h in omega (arith, own, f.rd)
below G v i h e f = let own : v ≡ six (field_of 31 26 v) 0 0 (field_of 15 11 v) (field_of 10 6 v) (field_of 5 0 v) = sym e ∙ masked_word G v h in omega (arith, own, f.rs, f.rt)
below H v i h e f = let own : v ≡ six (field_of 31 26 v) 0 0 0 (field_of 10 6 v) (field_of 5 0 v) = sym e ∙ masked_word H v h in omega (arith, own, f.rs, f.rt, f.rd)
below I v i h e f = let own : v ≡ six (field_of 31 26 v) 0 (field_of 20 16 v) 0 0 0 = sym e ∙ masked_word I v h in omega (arith, own, f.rs, f.imm)
below K v i h e f = let own : v ≡ six (field_of 31 26 v) 0 0 0 0 0 = sym e ∙ masked_word K v h in omega (arith, own, f.index)
below L v i h e f = let own : v ≡ six (field_of 31 26 v) 0 0 0 0 0 = sym e ∙ masked_word L v h in omega (arith, own, f.rs, f.rt, f.imm)
below M v i h e f = let own : v ≡ six (field_of 31 26 v) 0 0 0 0 0 = sym e ∙ masked_word M v h in omega (arith, own, f.rs, f.rt, f.imm)
below N v i h e f = let own : v ≡ six (field_of 31 26 v) 0 0 0 0 0 = sym e ∙ masked_word N v h in omega (arith, own, f.rs, f.rt, f.imm)
below O v i h e f = let own : v ≡ six (field_of 31 26 v) (field_of 25 21 v) 0 0 0 0 = sym e ∙ masked_word O v h in omega (arith, own, f.rt, f.imm)
below P v i h e f = let own : v ≡ six (field_of 31 26 v) 0 0 0 0 0 = sym e ∙ masked_word P v h in omega (arith, own, f.rs, f.rt, f.imm)
below Q v i h e f = let own : v ≡ six (field_of 31 26 v) (field_of 25 21 v) 0 0 (field_of 10 6 v) (field_of 5 0 v) = sym e ∙ masked_word Q v h in omega (arith, own, f.rt, f.rd)
below Z v i h e f = let own : v ≡ six (field_of 31 26 v) (field_of 25 21 v) (field_of 20 16 v) (field_of 15 11 v) (field_of 10 6 v) (field_of 5 0 v) = sym e ∙ masked_word Z v h in omega (arith, own)
