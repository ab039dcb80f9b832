-- Decoding and encoding are inverse: one test over the table, and one lemma that turns it into the rule at each row.
use Rattle.std.proofs.Common.{◌≡◌, ℕ, zero, suc, ◌+◌, ◌<◌, ◌^◌, Bool, true, ◌&&◌, ◌==◌, refl, sym, ap, subst, ◌∙◌, List, [], ◌∷◌, length, Option, Some, None, arith}
use Rattle.std.specs.Prelude.{bit_and, nat_lt, slice_get, IsSomeAnd, IfSome, option_and_then}
use Rattle.std.specs.Option.{option_map, option_map_or}
use Rattle.std.specs.Cmp.{first_so, second_so}
use Rattle.std.specs.List.{list_all}
use Rattle.std.proofs.lemmas.Bool.{eqb-true}
use borrow.Author.Tests.{ltb-true}
use Rattle.r3k_table.specs.Table.{Instruction, instructions, Matches, row_of}
use Rattle.r3k_table.proofs.Apart.{row_from, found}
use Rattle.r3k_decode.specs.Operation.{Operation, read_as, placed, IsZeroElsewhere, FitsFields, IsOperation}
use Rattle.r3k_decode.specs.Decoding.{operation_of, word_of}
use Rattle.r3k_decode.proofs.Shapes.{mask_of, whole, read_back, placed_again, below}

-- a row's mask is that of its shape, and its value lies under it
abbrev is_made : Instruction → Bool
is_made r = (r.mask == mask_of r.shape) && ((bit_and r.value r.mask == r.value) && nat_lt r.value (2 ^ 32))

record Made (r : Instruction) : Type 0 where
  mask : r.mask ≡ mask_of r.shape
  value : bit_and r.value r.mask ≡ r.value
  word : r.value < 2 ^ 32

-- what the test says of each row of the table
passes_at : (rows : List Instruction) → list_all is_made rows ≡ true → (i : ℕ) (r : Instruction) → slice_get rows i ≡ Some r → is_made r ≡ true
passes_at [] all i r e = absurd (let f : None ≡ Some r = e in cc)
passes_at (a ∷ rows) all zero r e =
    let same : a ≡ r = (let f : Some a ≡ Some r = e in cc) in subst (λ (x : Instruction). is_made x ≡ true) same (first_so (is_made a) (list_all is_made rows) all)
passes_at (a ∷ rows) all (suc i) r e = passes_at rows (second_so (is_made a) (list_all is_made rows) all) i r e

made : (i : ℕ) (r : Instruction) → slice_get instructions i ≡ Some r → Made r
made i r e =
    let t = passes_at instructions refl i r e in
    let rest = second_so (r.mask == mask_of r.shape) ((bit_and r.value r.mask == r.value) && nat_lt r.value (2 ^ 32)) t in
    record {
      mask = eqb-true r.mask (mask_of r.shape) (first_so (r.mask == mask_of r.shape) ((bit_and r.value r.mask == r.value) && nat_lt r.value (2 ^ 32)) t);
      value = eqb-true (bit_and r.value r.mask) r.value (first_so (bit_and r.value r.mask == r.value) (nat_lt r.value (2 ^ 32)) rest);
      word = ltb-true r.value (2 ^ 32) (second_so (bit_and r.value r.mask == r.value) (nat_lt r.value (2 ^ 32)) rest);
    }

-- an instruction's word has its row, and says it
said : (i : Operation) (o : Option Instruction) → slice_get instructions i.row ≡ o → IsSomeAnd o (λ r. IsZeroElsewhere r.shape i) → FitsFields i → operation_of (option_map_or (λ r. r.value + placed r.shape i) o 0) ≡ Some i
said i None e z f = absurd z
said i (Some r) e z f =
    let m = made i.row r e in
    let under : bit_and r.value (mask_of r.shape) ≡ r.value = subst (λ (n : ℕ). bit_and r.value n ≡ r.value) m.mask m.value in
    let word = r.value + placed r.shape i in
    let match : bit_and word r.mask ≡ r.value = ap (bit_and word) m.mask ∙ whole r.shape r.value i m.word under f in
    let matches : Matches word i.row = subst (λ (o : Option Instruction). IsSomeAnd o (λ q. bit_and word q.mask ≡ q.value)) (sym e) match in
    let row : row_of word ≡ Some i.row = row_from instructions refl word 0 i.row matches ∙ ap Some (omega arith) in
    ap (option_and_then (λ n. option_map (λ q. read_as n q.shape word) (slice_get instructions n))) row
    ∙ (ap (option_map (λ q. read_as i.row q.shape word)) e
    ∙ ap Some (read_back r.shape i.row r.value i m.word under f z refl))

pub decoded : (i : Operation) → IsOperation i → operation_of (word_of i) ≡ Some i
decoded i h = said i (slice_get instructions i.row) refl h.row h.fits

-- a word with a row is the word of what it says
spelled : (word n : ℕ) (o : Option Instruction) → word < 2 ^ 32 → slice_get instructions n ≡ o → IsSomeAnd o (λ r. bit_and word r.mask ≡ r.value) → IfSome (option_map (λ r. read_as n r.shape word) o) (λ i. word_of i ≡ word)
spelled word n None w e h = tt
spelled word n (Some r) w e h =
    let i = read_as n r.shape word in
    ap (λ (o : Option Instruction). option_map_or (λ q. q.value + placed q.shape i) o 0) e
    ∙ placed_again r.shape n r.value word w (ap (bit_and word) (sym (made n r e).mask) ∙ h)

of_row : (word : ℕ) (o : Option ℕ) → word < 2 ^ 32 → IfSome o (Matches word) → IfSome (option_and_then (λ n. option_map (λ r. read_as n r.shape word) (slice_get instructions n)) o) (λ i. word_of i ≡ word)
of_row word None w h = tt
of_row word (Some n) w h = spelled word n (slice_get instructions n) w refl h

pub encoded : (word : ℕ) → word < 2 ^ 32 → IfSome (operation_of word) (λ i. word_of i ≡ word)
encoded word w = of_row word (row_of word) w (found instructions word)

-- the word of an instruction is one
word_fits : (i : Operation) (o : Option Instruction) → slice_get instructions i.row ≡ o → IsSomeAnd o (λ r. IsZeroElsewhere r.shape i) → FitsFields i → option_map_or (λ r. r.value + placed r.shape i) o 0 < 2 ^ 32
word_fits i None e z f = absurd z
word_fits i (Some r) e z f =
    let m = made i.row r e in
    below r.shape r.value i m.word (subst (λ (n : ℕ). bit_and r.value n ≡ r.value) m.mask m.value) f

pub fits : (i : Operation) → IsOperation i → word_of i < 2 ^ 32
fits i h = word_fits i (slice_get instructions i.row) refl h.row h.fits

-- a number that has a row is below the number of rows
pub in_table : (rows : List Instruction) (i : ℕ) (q : Instruction → Type 0) → IsSomeAnd (slice_get rows i) q → i < length rows
in_table [] i q h = absurd h
in_table (a ∷ rows) zero q h = omega arith
in_table (a ∷ rows) (suc i) q h = let rest = in_table rows i q h in omega (arith, rest)
