-- Rows that are pairwise apart match no word twice.
use Rattle.std.proofs.Common.{◌≡◌, ℕ, zero, suc, Bool, true, false, cond, not, refl, sym, ap, subst, ◌∙◌, ◌+◌, List, [], ◌∷◌, Option, Some, None, arith}
use Rattle.std.specs.Prelude.{IfSome, bit_and}
use Rattle.std.specs.Cmp.{first_so, second_so}
use Rattle.std.specs.List.{list_all, position_from}
use Rattle.std.proofs.lemmas.Nat.{and_comm, and_assoc}
use Rattle.std.proofs.lemmas.Bool.{eq-eqb, ne_eqb, eqb-true}
use Rattle.r3k_table.specs.Table.{Instruction, MatchesIn, matches, are_apart, all_apart}

-- a word that matches two rows has both values under both masks
agree : (word : ℕ) (a b : Instruction) → bit_and word a.mask ≡ a.value → bit_and word b.mask ≡ b.value → bit_and a.value b.mask ≡ bit_and b.value a.mask
agree word a b ha hb =
    ap (λ (n : ℕ). bit_and n b.mask) (sym ha)
    ∙ (and_assoc b.mask word a.mask
    ∙ (ap (bit_and word) (and_comm a.mask b.mask) ∙ (sym (and_assoc a.mask word b.mask) ∙ ap (λ (n : ℕ). bit_and n a.mask) hb)))

disagree : (word : ℕ) (a b : Instruction) → are_apart a b ≡ true → bit_and word a.mask ≡ a.value → bit_and word b.mask ≡ b.value → ⊥
disagree word a b apart ha hb =
    let same : not true ≡ true = ap not (sym (eq-eqb (bit_and a.value b.mask) (bit_and b.value a.mask) (agree word a b ha hb))) ∙ apart in
    cc

-- no row of a list matches what a row apart from all of them matches
none_else : (a : Instruction) (rows : List Instruction) → list_all (are_apart a) rows ≡ true → (word j : ℕ) → bit_and word a.mask ≡ a.value → MatchesIn rows word j → ⊥
none_else a [] all word j ha hb = hb
none_else a (b ∷ rows) all word zero ha hb =
    disagree word a b (first_so (are_apart a b) (list_all (are_apart a) rows) all) ha hb
none_else a (b ∷ rows) all word (suc j) ha hb =
    none_else a rows (second_so (are_apart a b) (list_all (are_apart a) rows) all) word j ha hb

-- a row that a word matches is the first one in a list of rows that are apart
pub row_from : (rows : List Instruction) → all_apart rows ≡ true → (word base i : ℕ) → MatchesIn rows word i → position_from (matches word) base rows ≡ Some (base + i)
row_from [] all word base i h = absurd h
row_from (a ∷ rows) all word base zero h =
    ap (λ b. cond b (Some base) (position_from (matches word) (base + 1) rows)) (eq-eqb (bit_and word a.mask) a.value h)
    ∙ ap Some (omega arith)
row_from (a ∷ rows) all word base (suc i) h =
    ap (λ b. cond b (Some base) (position_from (matches word) (base + 1) rows))
    (ne_eqb (bit_and word a.mask) a.value (λ e. none_else a rows (first_so (list_all (are_apart a) rows) (all_apart rows) all) word i e h))
    ∙ (row_from rows (second_so (list_all (are_apart a) rows) (all_apart rows) all) word (base + 1) i h ∙ ap Some (omega arith))

-- what is found in a list of rows matches
abbrev Finds : List Instruction → ℕ → ℕ → Option ℕ → Type 0
Finds rows word base None = Unit {0}
Finds rows word base (Some k) = (i : ℕ) × (k ≡ base + i) × MatchesIn rows word i

found_from : (rows : List Instruction) (word base : ℕ) → Finds rows word base (position_from (matches word) base rows)
found_from [] word base = tt
found_from (a ∷ rows) word base = by_test (found_from rows word (base + 1)) (matches word a) refl
  where
    later : (o : Option ℕ) → Finds rows word (base + 1) o → Finds (a ∷ rows) word base o
    later None h = tt
    later (Some k) h = (suc h.0, omega arith, h.2)

    by_test : Finds rows word (base + 1) (position_from (matches word) (base + 1) rows) → (b : Bool) → matches word a ≡ b → Finds (a ∷ rows) word base (cond b (Some base) (position_from (matches word) (base + 1) rows))
    by_test rest true e = (zero, omega arith, eqb-true (bit_and word a.mask) a.value e)
    by_test rest false e = later (position_from (matches word) (base + 1) rows) rest

pub found : (rows : List Instruction) (word : ℕ) → IfSome (position_from (matches word) 0 rows) (MatchesIn rows word)
found rows word = known (position_from (matches word) 0 rows) (found_from rows word 0)
  where
    known : (o : Option ℕ) → Finds rows word 0 o → IfSome o (MatchesIn rows word)
    known None h = tt
    known (Some k) h = subst (λ (n : ℕ). MatchesIn rows word n) (let e : h.0 ≡ k = omega (arith, h.1) in e) h.2
