-- The lowest entry that matches, and whether another one does, give the lookup.
use Rattle.std.proofs.Common.{◌≡◌, ℕ, ◌+◌, ◌<◌, ◌≤◌, Bool, true, false, List, length, get_or}
use Rattle.std.proofs.Common.{refl, ap, arith}
use Rattle.std.specs.Prelude.{Option, Some, None, position, slice_index_or}
use Rattle.std.specs.List.{count_by, position_or_len}
use Rattle.std.proofs.lemmas.List.Sums.{position_or_len_is}
use Rattle.std.proofs.lemmas.Bool.{lt-ltb, le-ltb}
use Rattle.tlb64.specs.declared.entry.Entry.{Entry}
use Rattle.tlb64.specs.declared.entry.Found.{Found}
use Rattle.tlb64.specs.Entries.{matches, empty_entry}
use Rattle.tlb64.specs.Lookup.{lookup_of}
use Rattle.tlb64.proofs.Counts.{NonePasses, one-passes, two-pass}

position-none : {X : Type 0} (p : X → Bool) (d : X) (xs : List X)
    → NonePasses p d xs 0 (length xs) → position p xs ≡ None
position-none p d xs none =
    let all = position_or_len_is p xs (length xs) d (omega arith)
    (λ k high. none k (omega arith) high) (λ h. absurd (omega arith)) in
    rw (le-ltb (position_or_len p xs) (length xs) (omega (arith, all))) refl

position-some : {X : Type 0} (p : X → Bool) (d : X) (xs : List X) (i : ℕ) → i < length xs
    → NonePasses p d xs 0 i → p (get_or xs i d) ≡ true → position p xs ≡ Some i
position-some p d xs i within before here =
    let at = position_or_len_is p xs i d (omega arith)
    (λ k high. before k (omega arith) high) (λ _. here) in
    rw (lt-ltb (position_or_len p xs) (length xs) (omega (arith, at))) (ap Some at)

-- no entry from a place on matches
abbrev pub NoMatchFrom : List Entry → ℕ → ℕ → ℕ → Type 0
NoMatchFrom entries start address pid =
    NonePasses (matches address pid) empty_entry entries start 64

-- the first entry from a place on that matches
pub record IsNextMatch (entries : List Entry) (start address pid place : ℕ) : Type 0 where
  pub not_before : start ≤ place
  pub within : place < 64
  pub here : matches address pid (slice_index_or entries place empty_entry) ≡ true
  pub none_between : NonePasses (matches address pid) empty_entry entries start place

pub lookup_none : (entries : List Entry) (address pid : ℕ) → length entries ≡ 64
    → NoMatchFrom entries 0 address pid → lookup_of entries address pid ≡ None
lookup_none entries address pid count none =
    rw (position-none (matches address pid) empty_entry entries (rw count none)) refl

-- what a lookup finds at a place, where `several` says whether several match
abbrev pub found_with : List Entry → ℕ → Bool → Option Found
found_with entries place several = Some (record {
  index = place;
  entry = slice_index_or entries place empty_entry;
  several = several;
})

pub lookup_one : (entries : List Entry) (address pid place : ℕ) → length entries ≡ 64
    → IsNextMatch entries 0 address pid place → NoMatchFrom entries (place + 1) address pid
    → lookup_of entries address pid ≡ found_with entries place false
lookup_one entries address pid place count first none =
    let p = matches address pid in
    let within : place < length entries = omega (arith, first.within) in
    let one = one-passes p empty_entry entries place within first.here first.none_between
    (rw count none) in
    rw (position-some p empty_entry entries place within first.none_between first.here, one) refl

pub lookup_several : (entries : List Entry) (address pid place other : ℕ) → length entries ≡ 64
    → IsNextMatch entries 0 address pid place → IsNextMatch entries (place + 1) address pid other
    → lookup_of entries address pid ≡ found_with entries place true
lookup_several entries address pid place other count first next =
    let p = matches address pid in
    let within : place < length entries = omega (arith, first.within) in
    let more = two-pass p empty_entry entries place other
    (omega (arith, next.not_before)) (omega (arith, next.within)) first.here next.here in
    let at = position-some p empty_entry entries place within first.none_between first.here in
    rw (at, lt-ltb 1 (count_by p entries) more) refl
