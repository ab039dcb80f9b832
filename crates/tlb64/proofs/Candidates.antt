-- The search among the candidates of an address's set finds the lowest entry of all that match.
use Rattle.std.proofs.Common.{◌≡◌, ℕ, ◌+◌, ◌-◌, ◌^◌, ◌<◌, ◌≤◌, Bool, true, false, List}
use Rattle.std.proofs.Common.{refl, sym, ap, subst, arith, ◌∙◌, inl, inr}
use Rattle.std.specs.Prelude.{Option, Some, None, MatchOption, slice_index, slice_index_or, is_some}
use Rattle.std.specs.Prelude.{bit_and}
use Rattle.std.specs.Int.{w64, bit_at, trailing_zeros}
use Rattle.std.specs.Prelude.{◌&&◌, if◌then◌else◌}
use Rattle.std.proofs.Math.Nat.{eq-or-lt_of_le}
use Rattle.std.proofs.Math.Bool.{false≢true}
use Rattle.std.proofs.lemmas.Bool.{cases_lt, eqb-true, eq-eqb}
use Rattle.std.proofs.lemmas.Nat.Bits.{bit_at-trailing_zeros}
use Rattle.tlb64.specs.declared.entry.Entry.{Entry}
use Rattle.tlb64.specs.declared.sets.Match.{Match}
use Rattle.tlb64.specs.Entries.{matches, empty_entry, page_of}
use Rattle.tlb64.specs.Lookup.{lookup_of}
use Rattle.tlb64.specs.Sets.{set_of, set_of_page, AreSetsOf, NoneMatches}
use Rattle.tlb64.specs.Sets.{IsLowestMatch}
use Rattle.tlb64.proofs.Bits.{cleared-upto, cleared-above}
use Rattle.tlb64.proofs.Least.{IsNextMatch, lookup_none, lookup_one, lookup_several}
use Rattle.tlb64.proofs.Least.{found_with}

-- the candidates below a place are taken out, and none of them matches
pub record ArePassed (entries : List Entry) (address pid candidates left : ℕ) : Type 0 where
  pub low : ℕ
  pub above : (i : ℕ) → low ≤ i → bit_at left i ≡ bit_at candidates i
  pub below : (i : ℕ) → i < low → bit_at left i ≡ 0
  pub none : (i : ℕ) → i < low → bit_at candidates i ≡ 1
      → matches address pid (slice_index_or entries i empty_entry) ≡ false

-- the lowest candidate that is left
record IsLowest (left place : ℕ) : Type 0 where
  one : bit_at left place ≡ 1
  none : (i : ℕ) → i < place → bit_at left i ≡ 0

lowest : (left place : ℕ) → 0 < left → left < 2 ^ 64 → place ≡ trailing_zeros w64 left
    → IsLowest left place
lowest left place some fits at =
    let bits = bit_at-trailing_zeros w64 left some fits in
    rw at (record { one = bits.1; none = bits.2 })

-- a bit that is 1 is not below a place under which all are 0
not_below : (n low place : ℕ) → ((i : ℕ) → i < low → bit_at n i ≡ 0) → bit_at n place ≡ 1
    → low ≤ place
not_below n low place none one = elim (cases_lt place low) [
  | inl below ↦ absurd (omega (arith, none place below, one))
  | inr high ↦ high
]

-- no candidate below it matches
none_below : (entries : List Entry) (address pid candidates left place i : ℕ)
    → ArePassed entries address pid candidates left → IsLowest left place → i < place
    → bit_at candidates i ≡ 1
    → matches address pid (slice_index_or entries i empty_entry) ≡ false
none_below entries address pid candidates left place i passed is below candidate =
    elim (cases_lt i passed.low) [
      | inl low ↦ passed.none i low candidate
      | inr high ↦ absurd (omega (arith, passed.above i high, is.none i below))
    ]

pub next_passed : (entries : List Entry) (address pid candidates left place : ℕ) → 0 < left
    → left < 2 ^ 64 → place ≡ trailing_zeros w64 left
    → ArePassed entries address pid candidates left
    → matches address pid (slice_index_or entries place empty_entry) ≡ false
    → ArePassed entries address pid candidates (bit_and left (left - 1))
next_passed entries address pid candidates left place some fits at passed fails =
    let is = lowest left place some fits at in
    let high = not_below left passed.low place passed.below is.one in
    let Fails : ℕ → Type 0 =
    λ k. matches address pid (slice_index_or entries k empty_entry) ≡ false in
    let none = λ (i : ℕ) (upto : i ≤ place) (candidate : bit_at candidates i ≡ 1).
    elim (eq-or-lt_of_le upto) as (λ _. Fails i) [
      | inl same ↦ subst Fails (sym same) fails
      | inr below ↦
          none_below entries address pid candidates left place i passed is below candidate
    ] in
    record {
      low = place + 1;
      above = λ i h.
          cleared-above left place i is.one is.none (omega arith)
          ∙ passed.above i (omega arith);
      below = λ i h. cleared-upto left place i is.one is.none (omega arith);
      none = λ i h candidate. none i (omega arith) candidate;
    }

pub lowest_found : (entries : List Entry) (address pid candidates left place : ℕ) → 0 < left
    → left < 2 ^ 64 → place ≡ trailing_zeros w64 left
    → ArePassed entries address pid candidates left
    → matches address pid (slice_index_or entries place empty_entry) ≡ true
    → IsLowestMatch entries address pid candidates
    (record { place = place; rest = bit_and left (left - 1) })
lowest_found entries address pid candidates left place some fits at passed matched =
    let is = lowest left place some fits at in
    let high = not_below left passed.low place passed.below is.one in
    record {
      within = rw at (bit_at-trailing_zeros w64 left some fits).0;
      candidate = sym (passed.above place high) ∙ is.one;
      here = matched;
      none_before = λ i below candidate.
          none_below entries address pid candidates left place i passed is below candidate;
      rest_after = λ i h.
          cleared-above left place i is.one is.none h ∙ passed.above i (omega arith);
      rest_before = λ i h. cleared-upto left place i is.one is.none h;
    }

-- an entry that matches is a candidate of the address's set
same_page : (b c : Bool) → b && c ≡ true → b ≡ true
same_page true c h = refl
same_page false c h = absurd (false≢true h)

by_test : (b : Bool) → (b ≡ true → b ≡ false) → b ≡ false
by_test true h = h refl
by_test false h = refl

candidate : (entries : List Entry) (sets : List ℕ) (address pid i : ℕ)
    → AreSetsOf entries sets → i < 64
    → matches address pid (slice_index_or entries i empty_entry) ≡ true
    → bit_at (slice_index sets (set_of address)) i ≡ 1
candidate entries sets address pid i are within matched =
    let entry = slice_index_or entries i empty_entry in
    let pages = eqb-true (page_of entry.hi) (page_of address) (same_page _ _ matched) in
    let same = eq-eqb (set_of entry.hi) (set_of address) (ap set_of_page pages) in
    let fits : set_of address < 64 = omega arith in
    are.bits (set_of address) i fits within ∙ ap (λ b. if b then 1 else 0) same

pub found_none : (entries : List Entry) (sets : List ℕ) (address pid : ℕ) → AreSetsOf entries sets
    → NoneMatches entries address pid (slice_index sets (set_of address))
    → lookup_of entries address pid ≡ None
found_none entries sets address pid are none =
    lookup_none entries address pid are.entry_count
    (λ i low high. by_test _ (λ matched. none i high
    (candidate entries sets address pid i are high matched)))

-- the lowest candidate is the lowest of all
first : (entries : List Entry) (sets : List ℕ) (address pid : ℕ) (m : Match)
    → AreSetsOf entries sets
    → IsLowestMatch entries address pid (slice_index sets (set_of address)) m
    → IsNextMatch entries 0 address pid m.place
first entries sets address pid m are is = record {
  not_before = omega arith;
  within = is.within;
  here = is.here;
  none_between = λ i low high. by_test _ (λ matched. is.none_before i high
      (candidate entries sets address pid i are (omega (arith, is.within)) matched));
}

found_one : (entries : List Entry) (sets : List ℕ) (address pid : ℕ) (m : Match)
    → AreSetsOf entries sets
    → IsLowestMatch entries address pid (slice_index sets (set_of address)) m
    → NoneMatches entries address pid m.rest
    → lookup_of entries address pid ≡ found_with entries m.place false
found_one entries sets address pid m are is none =
    lookup_one entries address pid m.place are.entry_count (first entries sets address pid m are is)
    (λ i low high. by_test _ (λ matched. none i high
    (is.rest_after i (omega arith) ∙ candidate entries sets address pid i are high matched)))

found_several : (entries : List Entry) (sets : List ℕ) (address pid : ℕ) (m other : Match)
    → AreSetsOf entries sets
    → IsLowestMatch entries address pid (slice_index sets (set_of address)) m
    → IsLowestMatch entries address pid m.rest other
    → lookup_of entries address pid ≡ found_with entries m.place true
found_several entries sets address pid m other are is next =
    let none_upto = λ (i : ℕ) (h : i < m.place + 1). is.rest_before i (omega arith) in
    let beyond = not_below m.rest (m.place + 1) other.place none_upto next.candidate in
    let matched_after = λ (i : ℕ) (low : m.place + 1 ≤ i) (high : i < 64)
    (matched : matches address pid (slice_index_or entries i empty_entry) ≡ true).
    is.rest_after i (omega arith) ∙ candidate entries sets address pid i are high matched in
    lookup_several entries address pid m.place other.place are.entry_count
    (first entries sets address pid m are is)
    (record {
      not_before = beyond;
      within = next.within;
      here = next.here;
      none_between = λ i low high. by_test _ (λ matched.
          next.none_before i high (matched_after i low (omega (arith, next.within)) matched));
    })

pub found_as : (entries : List Entry) (sets : List ℕ) (address pid : ℕ) (m : Match)
    (next : Option Match)
    → AreSetsOf entries sets
    → IsLowestMatch entries address pid (slice_index sets (set_of address)) m
    → MatchOption next (NoneMatches entries address pid m.rest)
    (IsLowestMatch entries address pid m.rest)
    → lookup_of entries address pid ≡ found_with entries m.place (is_some next)
found_as entries sets address pid m None are is none =
    found_one entries sets address pid m are is none
found_as entries sets address pid m (Some other) are is next =
    found_several entries sets address pid m other are is next
