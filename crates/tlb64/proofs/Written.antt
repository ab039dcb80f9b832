-- The sets of the entries at reset, and after a write.
use Rattle.std.proofs.Common.{◌≡◌, ℕ, zero, suc, ◌-◌, ◌*◌, ◌%◌, ◌^◌, ◌<◌, inl, inr, List, length}
use Rattle.std.proofs.Common.{sym, ap, subst, arith, ◌∙◌}
use Rattle.std.specs.Prelude.{◌≢◌, nat_eq, bit_and, bit_or, slice_set, slice_index, slice_index_or}
use Rattle.std.specs.Prelude.{replicate, if◌then◌else◌}
use Rattle.std.specs.Int.{w64, bit_at, bit_not}
use Rattle.std.proofs.lemmas.List.{get_or-set_same, get_or-set_other, length-set}
use Rattle.std.proofs.lemmas.List.{get_or-replicate, length-replicate}
use Rattle.std.proofs.lemmas.Nat.Bits.{bit_at-zero, bit_at_ones, bit_at_set_same, bit_at_set_other}
use Rattle.std.proofs.lemmas.Nat.Bits.{bit_at_clear_same, bit_at_clear_other}
use Rattle.std.proofs.lemmas.Bool.{ne_eqb}
use Rattle.std.proofs.lemmas.Bool.Decides.{eqb_tells}
use Rattle.tlb64.specs.declared.entry.Entry.{Entry}
use Rattle.tlb64.specs.Entries.{empty_entry, reset_entries}
use Rattle.tlb64.specs.Sets.{set_of, AreSetsOf}

-- a bit of the number of a list that was written, and of another one
bit-same : (xs : List ℕ) (s n i : ℕ) → s < length xs
    → bit_at (slice_index (slice_set xs s n) s) i ≡ bit_at n i
bit-same xs s n i fits = ap (λ m. bit_at m i) (get_or-set_same xs s n 0 fits)

bit-other : (xs : List ℕ) (s t n i : ℕ) → t ≢ s
    → bit_at (slice_index (slice_set xs s n) t) i ≡ bit_at (slice_index xs t) i
bit-other xs s t n i other = ap (λ m. bit_at m i) (get_or-set_other xs s t n 0 other)

-- the sets at reset: all entries are in the first
abbrev pub zeros : List ℕ
zeros = replicate 64 0

abbrev pub reset_sets : List ℕ
reset_sets = slice_set zeros 0 (2 ^ 64 - 1)

reset_bits : (s i : ℕ) → s < 64 → i < 64
    → bit_at (slice_index reset_sets s) i ≡ (if nat_eq 0 s then 1 else 0)
reset_bits zero i s_fits fits =
    let count : length zeros ≡ 64 = length-replicate {A = ℕ} 64 0 in
    bit-same zeros 0 (2 ^ 64 - 1) i (omega (arith, count)) ∙ bit_at_ones 64 i fits
reset_bits (suc s) i s_fits fits =
    let apart : suc s ≢ 0 = λ e. absurd (omega arith) in
    let zero_there = get_or-replicate {A = ℕ} 64 (suc s) 0 0 s_fits in
    let not_first = ap (λ b. if b then 1 else 0) (ne_eqb 0 (suc s) (λ e. apart (sym e))) in
    bit-other zeros 0 (suc s) (2 ^ 64 - 1) i apart
    ∙ (ap (λ m. bit_at m i) zero_there ∙ (bit_at-zero i ∙ sym not_first))

pub reset_are : AreSetsOf reset_entries reset_sets
reset_are = record {
  entry_count = length-replicate 64 empty_entry;
  set_count = length-set zeros 0 (2 ^ 64 - 1) ∙ length-replicate {A = ℕ} 64 0;
  bits = λ s i s_fits fits.
      let there = get_or-replicate 64 i empty_entry empty_entry fits in
      reset_bits s i s_fits fits
      ∙ sym (ap (λ (e : Entry). if nat_eq (set_of e.hi) s then 1 else 0) there);
}

-- a number with the bit of a place taken out, and put in
abbrev without_bit : ℕ → ℕ → ℕ
without_bit n place = bit_and n (bit_not w64 (1 * 2 ^ place % 2 ^ 64))

abbrev with_bit : ℕ → ℕ → ℕ
with_bit n place = bit_or n (1 * 2 ^ place % 2 ^ 64)

-- a list of numbers with that done to one of them
abbrev taken_out : List ℕ → ℕ → ℕ → List ℕ
taken_out sets s place = slice_set sets s (without_bit (slice_index sets s) place)

abbrev put_in : List ℕ → ℕ → ℕ → List ℕ
put_in sets s place = slice_set sets s (with_bit (slice_index sets s) place)

-- the bits of other places stay
taken_out-other : (sets : List ℕ) (old place s i : ℕ) → old < length sets → place < 64 → i < 64
    → i ≢ place
    → bit_at (slice_index (taken_out sets old place) s) i ≡ bit_at (slice_index sets s) i
taken_out-other sets old place s i there place_fits fits other =
    let n = slice_index sets old in
    let m = without_bit n place in
    elim (eqb_tells s old) [
      | inl same ↦
          let P : ℕ → Type 0 =
          λ k. bit_at (slice_index (taken_out sets old place) k) i
          ≡ bit_at (slice_index sets k) i in
          subst P (sym same.1)
          (bit-same sets old m i there ∙ bit_at_clear_other w64 n place place_fits i fits other)
      | inr apart ↦ bit-other sets old s m i apart.1
    ]

put_in-other : (sets : List ℕ) (new place s i : ℕ) → new < length sets → place < 64 → i ≢ place
    → bit_at (slice_index (put_in sets new place) s) i ≡ bit_at (slice_index sets s) i
put_in-other sets new place s i there place_fits other =
    let n = slice_index sets new in
    let m = with_bit n place in
    elim (eqb_tells s new) [
      | inl same ↦
          let P : ℕ → Type 0 =
          λ k. bit_at (slice_index (put_in sets new place) k) i ≡ bit_at (slice_index sets k) i in
          subst P (sym same.1)
          (bit-same sets new m i there ∙ bit_at_set_other w64 n place place_fits i other)
      | inr apart ↦ bit-other sets new s m i apart.1
    ]

-- the bit of the place written is in no set once it is taken out of its old one
gone : (entries : List Entry) (sets : List ℕ) (place s old : ℕ) → AreSetsOf entries sets
    → place < 64 → s < 64 → old < 64
    → old ≡ set_of (slice_index_or entries place empty_entry).hi
    → bit_at (slice_index (taken_out sets old place) s) place ≡ 0
gone entries sets place s old are place_fits s_fits old_fits is =
    let n = slice_index sets old in
    let m = without_bit n place in
    let there : old < length sets = omega (arith, are.set_count) in
    elim (eqb_tells old s) [
      | inl same ↦
          let P : ℕ → Type 0 = λ k. bit_at (slice_index (taken_out sets old place) k) place ≡ 0 in
          subst P same.1
          (bit-same sets old m place there ∙ bit_at_clear_same w64 n place place_fits)
      | inr apart ↦
          let elsewhere = ap (λ b. if b then 1 else 0) (ap (λ k. nat_eq k s) (sym is) ∙ apart.0) in
          bit-other sets old s m place (λ e. apart.1 (sym e))
          ∙ (are.bits s place s_fits place_fits ∙ elsewhere)
    ]

-- and then it is in its new one
here : (out : List ℕ) (new place s target : ℕ) → new < length out → place < 64 → new ≡ target
    → bit_at (slice_index out s) place ≡ 0
    → bit_at (slice_index (put_in out new place) s) place ≡ (if nat_eq target s then 1 else 0)
here out new place s target there place_fits is out_of =
    let n = slice_index out new in
    let m = with_bit n place in
    elim (eqb_tells target s) [
      | inl same ↦
          let P : ℕ → Type 0 = λ k. bit_at (slice_index (put_in out new place) k) place ≡ 1 in
          subst P (is ∙ same.1)
          (bit-same out new m place there ∙ bit_at_set_same w64 n place place_fits)
          ∙ sym (ap (λ b. if b then 1 else 0) same.0)
      | inr apart ↦
          bit-other out new s m place (λ e. apart.1 (sym is ∙ sym e))
          ∙ (out_of ∙ sym (ap (λ b. if b then 1 else 0) apart.0))
    ]

pub written_are : (entries : List Entry) (sets : List ℕ) (place : ℕ) (entry : Entry) (old new : ℕ)
    → AreSetsOf entries sets → place < 64 → old < 64 → new < 64
    → old ≡ set_of (slice_index_or entries place empty_entry).hi → new ≡ set_of entry.hi
    → AreSetsOf (slice_set entries place entry) (put_in (taken_out sets old place) new place)
written_are entries sets place entry old new are place_fits old_fits new_fits old_is new_is =
    let out = taken_out sets old place in
    let old_there : old < length sets = omega (arith, are.set_count) in
    let out_count : length out ≡ 64 =
    length-set sets old (without_bit (slice_index sets old) place) ∙ are.set_count in
    let new_there : new < length out = omega (arith, out_count) in
    let place_there : place < length entries = omega (arith, are.entry_count) in
    let after = slice_set entries place entry in
    record {
      entry_count = length-set entries place entry ∙ are.entry_count;
      set_count = length-set out new (with_bit (slice_index out new) place) ∙ out_count;
      bits = λ s i s_fits fits. elim (eqb_tells i place) [
        | inl same ↦
            let P : ℕ → Type 0 = λ k. bit_at (slice_index (put_in out new place) s) k
            ≡ (if nat_eq (set_of (slice_index_or after k empty_entry).hi) s then 1 else 0) in
            let none = gone entries sets place s old are place_fits s_fits old_fits old_is in
            subst P (sym same.1) (rw (get_or-set_same entries place entry empty_entry place_there)
            (here out new place s (set_of entry.hi) new_there place_fits new_is none))
        | inr apart ↦
            rw (get_or-set_other entries place i entry empty_entry apart.1)
            (put_in-other out new place s i new_there place_fits apart.1
            ∙ (taken_out-other sets old place s i old_there place_fits fits apart.1
            ∙ are.bits s i s_fits fits))
      ];
    }
