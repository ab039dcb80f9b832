-- The row that the jumps lead to is the only one that a word may match.
use Rattle.std.proofs.Common.{◌≡◌, ℕ, zero, suc, ◌+◌, Bool, true, false, ◌&&◌, ◌==◌, cond, not, refl, sym, ap, subst, ◌∙◌, List, [], ◌∷◌, Option, Some, None, arith}
use Rattle.std.specs.Prelude.{bit_and, slice_get, IsSomeAnd, IfSome, option_and_then}
use Rattle.std.specs.Option.{option_map}
use Rattle.std.specs.Cmp.{first_so, second_so}
use Rattle.std.specs.List.{list_all, position_from}
use Rattle.std.proofs.lemmas.Nat.{and_assoc}
use Rattle.std.proofs.lemmas.Bool.{eq-eqb, eqb-true}
use Rattle.r3k_table.specs.Table.{Instruction, instructions, Matches, MatchesIn, matches, row_of}
use Rattle.r3k_table.proofs.Apart.{row_from, found}
use Rattle.r3k_decode.specs.Operation.{read_as}
use Rattle.r3k_decode.specs.Decoding.{operation_of}
use Rattle.r3k_decode.specs.Jump.{opcode_of, Group, special_rows, regimm_rows, cop0_rows, other_rows, has_key, picked, candidate_of, said_by, said_at}

-- a row's mask holds the major opcode, and of a row of the group the bits of its key
abbrev masks_key : Group → Instruction → Bool
masks_key g r = (bit_and r.mask 0xFC00_0000 == 0xFC00_0000) && cond (g.holds (opcode_of r.value)) (bit_and r.mask g.key == g.key) true

-- no two rows of the group have the same key
abbrev differ : Group → Instruction → Instruction → Bool
differ g a b = not (g.holds (opcode_of a.value) && has_key g (bit_and a.value g.key) b)

abbrev all_differ : Group → List Instruction → Bool
all_differ g [] = true
all_differ g (r ∷ rs) = list_all (differ g r) rs && all_differ g rs

-- bits that a mask holds are those of the word
under : (word mask value bits : ℕ) → bit_and mask bits ≡ bits → bit_and word mask ≡ value → bit_and value bits ≡ bit_and word bits
under word mask value bits m e =
    ap (λ (n : ℕ). bit_and n bits) (sym e) ∙ (and_assoc bits word mask ∙ ap (bit_and word) m)

-- a row that a word of the group matches has the word's key
keyed : (g : Group) (word : ℕ) (r : Instruction) → masks_key g r ≡ true → g.holds (opcode_of word) ≡ true → bit_and word r.mask ≡ r.value → has_key g (bit_and word g.key) r ≡ true
keyed g word r t h e =
    let op : opcode_of r.value ≡ opcode_of word = under word r.mask r.value 0xFC00_0000 (eqb-true (bit_and r.mask 0xFC00_0000) 0xFC00_0000 (first_so (bit_and r.mask 0xFC00_0000 == 0xFC00_0000) (cond (g.holds (opcode_of r.value)) (bit_and r.mask g.key == g.key) true) t)) e in
    let holds : g.holds (opcode_of r.value) ≡ true = ap g.holds op ∙ h in
    let mask : (bit_and r.mask g.key == g.key) ≡ true =
    sym (ap (λ b. cond b (bit_and r.mask g.key == g.key) true) holds) ∙ second_so (bit_and r.mask 0xFC00_0000 == 0xFC00_0000) (cond (g.holds (opcode_of r.value)) (bit_and r.mask g.key == g.key) true) t in
    let same : bit_and r.value g.key ≡ bit_and word g.key = under word r.mask r.value g.key (eqb-true (bit_and r.mask g.key) g.key mask) e in
    ap (λ b. b && (bit_and r.value g.key == bit_and word g.key)) holds ∙ eq-eqb (bit_and r.value g.key) (bit_and word g.key) same

keyed_in : (g : Group) (word : ℕ) (rows : List Instruction) → list_all (masks_key g) rows ≡ true → g.holds (opcode_of word) ≡ true → (i : ℕ) → MatchesIn rows word i → IsSomeAnd (slice_get rows i) (λ r. has_key g (bit_and word g.key) r ≡ true)
keyed_in g word [] t h i m = absurd m
keyed_in g word (a ∷ rows) t h zero m = keyed g word a (first_so (masks_key g a) (list_all (masks_key g) rows) t) h m
keyed_in g word (a ∷ rows) t h (suc i) m = keyed_in g word rows (second_so (masks_key g a) (list_all (masks_key g) rows) t) h i m

-- two rows with one key are the same
none_else : (g : Group) (bits : ℕ) (a : Instruction) (rows : List Instruction) → list_all (differ g a) rows ≡ true → has_key g bits a ≡ true → (i : ℕ) → IsSomeAnd (slice_get rows i) (λ r. has_key g bits r ≡ true) → ⊥
none_else g bits a [] t ha i h = h
none_else g bits a (b ∷ rows) t ha zero h =
    let holds : g.holds (opcode_of a.value) ≡ true = first_so (g.holds (opcode_of a.value)) (bit_and a.value g.key == bits) ha in
    let same : bit_and a.value g.key ≡ bits = eqb-true (bit_and a.value g.key) bits (second_so (g.holds (opcode_of a.value)) (bit_and a.value g.key == bits) ha) in
    let both : (g.holds (opcode_of a.value) && has_key g (bit_and a.value g.key) b) ≡ true =
    ap (λ c. c && has_key g (bit_and a.value g.key) b) holds ∙ (ap (λ (n : ℕ). has_key g n b) same ∙ h) in
    let bad : not true ≡ true = ap not (sym both) ∙ first_so (differ g a b) (list_all (differ g a) rows) t in
    cc
none_else g bits a (b ∷ rows) t ha (suc i) h = none_else g bits a rows (second_so (differ g a b) (list_all (differ g a) rows) t) ha i h

first_keyed : (g : Group) (bits : ℕ) (rows : List Instruction) → all_differ g rows ≡ true → (base i : ℕ) → IsSomeAnd (slice_get rows i) (λ r. has_key g bits r ≡ true) → position_from (has_key g bits) base rows ≡ Some (base + i)
first_keyed g bits [] t base i h = absurd h
first_keyed g bits (a ∷ rows) t base zero h =
    ap (λ b. cond b (Some base) (position_from (has_key g bits) (base + 1) rows)) h ∙ ap Some (omega arith)
first_keyed g bits (a ∷ rows) t base (suc i) h =
    by_test (first_keyed g bits rows (second_so (list_all (differ g a) rows) (all_differ g rows) t) (base + 1) i h) (has_key g bits a) refl
  where
    by_test : position_from (has_key g bits) (base + 1) rows ≡ Some (base + 1 + i) → (b : Bool) → has_key g bits a ≡ b → position_from (has_key g bits) base (a ∷ rows) ≡ Some (base + suc i)
    by_test rest true e = absurd (none_else g bits a rows (first_so (list_all (differ g a) rows) (all_differ g rows) t) e i h)
    by_test rest false e =
        ap (λ b. cond b (Some base) (position_from (has_key g bits) (base + 1) rows)) e ∙ (rest ∙ ap Some (omega arith))

-- the row of a word, if it has one, is the row with its key
row_is_picked : (g : Group) → list_all (masks_key g) instructions ≡ true → all_differ g instructions ≡ true → (word : ℕ) → g.holds (opcode_of word) ≡ true → (i : ℕ) → Matches word i → picked g (bit_and word g.key) ≡ Some i
row_is_picked g m d word h i e = first_keyed g (bit_and word g.key) instructions d 0 i (keyed_in g word instructions m h i e) ∙ ap Some (omega arith)

-- what a word says is what the row with its key says
by_row : (word : ℕ) (o p : Option ℕ) → row_of word ≡ o → IfSome o (Matches word) → ((i : ℕ) → Matches word i → p ≡ Some i) → option_and_then (λ row. option_map (λ r. read_as row r.shape word) (slice_get instructions row)) o ≡ option_and_then (said_at word) p
by_row word o None r f u = without o f u
  where
    without : (o : Option ℕ) → IfSome o (Matches word) → ((i : ℕ) → Matches word i → None ≡ Some i) → option_and_then (λ row. option_map (λ r. read_as row r.shape word) (slice_get instructions row)) o ≡ None
    without None f u = refl
    without (Some i) f u = absurd (let bad : None ≡ Some i = u i f in cc)
by_row word o (Some n) r f u = at_row (slice_get instructions n) refl
  where
    no_row : (o : Option ℕ) → IfSome o (Matches word) → ((i : ℕ) → Matches word i → Some n ≡ Some i) → (Matches word n → ⊥) → option_and_then (λ row. option_map (λ r. read_as row r.shape word) (slice_get instructions row)) o ≡ None
    no_row None f u never = refl
    no_row (Some i) f u never = absurd (never (subst (Matches word) (let e : Some n ≡ Some i = u i f in let s : i ≡ n = cc in s) f))

    at_row : (q : Option Instruction) → slice_get instructions n ≡ q → option_and_then (λ row. option_map (λ r. read_as row r.shape word) (slice_get instructions row)) o ≡ option_and_then (said_by word n) (slice_get instructions n)
    at_row None e = no_row o f u (λ m. subst (λ (z : Option Instruction). IsSomeAnd z (λ r. bit_and word r.mask ≡ r.value)) e m) ∙ sym (ap (option_and_then (said_by word n)) e)
    at_row (Some r') e = by_test (matches word r') refl
      where
        by_test : (b : Bool) → matches word r' ≡ b → option_and_then (λ row. option_map (λ r. read_as row r.shape word) (slice_get instructions row)) o ≡ option_and_then (said_by word n) (slice_get instructions n)
        by_test true t =
            let here : Matches word n = subst (λ (z : Option Instruction). IsSomeAnd z (λ r. bit_and word r.mask ≡ r.value)) (sym e) (eqb-true (bit_and word r'.mask) r'.value t) in
            let row : o ≡ Some n = sym r ∙ (row_from instructions refl word 0 n here ∙ ap Some (omega arith)) in
            ap (option_and_then (λ row. option_map (λ r. read_as row r.shape word) (slice_get instructions row))) row
            ∙ (ap (option_map (λ q. read_as n q.shape word)) e
            ∙ (sym (ap (λ b. cond b (Some (read_as n r'.shape word)) None) t) ∙ sym (ap (option_and_then (said_by word n)) e)))
        by_test false t =
            no_row o f u (λ m. let bad : matches word r' ≡ true = eq-eqb (bit_and word r'.mask) r'.value (subst (λ (z : Option Instruction). IsSomeAnd z (λ q. bit_and word q.mask ≡ q.value)) e m) in let worse : false ≡ true = sym t ∙ bad in cc)
            ∙ (sym (ap (λ b. cond b (Some (read_as n r'.shape word)) None) t) ∙ sym (ap (option_and_then (said_by word n)) e))

in_group : (g : Group) → list_all (masks_key g) instructions ≡ true → all_differ g instructions ≡ true → (word : ℕ) → g.holds (opcode_of word) ≡ true → operation_of word ≡ option_and_then (said_at word) (picked g (bit_and word g.key))
in_group g m d word h = by_row word (row_of word) (picked g (bit_and word g.key)) refl (found instructions word) (row_is_picked g m d word h)

pub jumped : (word : ℕ) → operation_of word ≡ option_and_then (said_at word) (candidate_of word)
jumped word = first (opcode_of word == 0) refl
  where
    third : (a b c : Bool) → (opcode_of word == 0) ≡ a → (opcode_of word == 0x0400_0000) ≡ b → (opcode_of word == 0x4000_0000) ≡ c → operation_of word ≡ option_and_then (said_at word) (cond a (picked special_rows (bit_and word special_rows.key)) (cond b (picked regimm_rows (bit_and word regimm_rows.key)) (cond c (picked cop0_rows (bit_and word cop0_rows.key)) (picked other_rows (bit_and word other_rows.key)))))
    third true b c ea eb ec = in_group special_rows refl refl word ea
    third false true c ea eb ec = in_group regimm_rows refl refl word eb
    third false false true ea eb ec = in_group cop0_rows refl refl word ec
    third false false false ea eb ec =
        in_group other_rows refl refl word (ap (λ x. not x && (not (opcode_of word == 0x0400_0000) && not (opcode_of word == 0x4000_0000))) ea ∙ (ap (λ x. not x && not (opcode_of word == 0x4000_0000)) eb ∙ ap not ec))

    first : (a : Bool) → (opcode_of word == 0) ≡ a → operation_of word ≡ option_and_then (said_at word) (candidate_of word)
    first a e = third (opcode_of word == 0) (opcode_of word == 0x0400_0000) (opcode_of word == 0x4000_0000) refl refl refl
