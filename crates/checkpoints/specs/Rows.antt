-- How the records of a number are held (own): each has a name, and may know by name the record that follows it.
use Rattle.std.specs.Prelude.{◌≡◌, ℕ, zero, suc, ◌+◌, ◌<◌, ◌≤◌, List, [], ◌∷◌, length, map, Contains, Option, None, Some, IfSome, slice_get}
use Rattle.r3k_machine.specs.State.{State}
use Rattle.span_fact.specs.Span.{Span, end_of}
use Rattle.checkpoints.specs.Kept.{row_at}

-- A record, with its name in its row. The record of the next number that has the name `next` starts where this one ends.
pub record Linked : Type 0 where
  pub span : Span
  pub name : ℕ
  pub next : Option ℕ

-- a row, how many records it has room for, and where a span of its number ends
pub record Places : Type 0 where
  pub records : List Linked
  pub room : ℕ
  pub end : Option State

abbrev pub spans_of : List Linked → List Span
spans_of records = map (λ r. r.span) records

abbrev pub records_of : List Places → List (List Linked)
records_of places = map (λ p. p.records) places

abbrev pub rows_of : List Places → List (List Span)
rows_of places = map (λ p. spans_of p.records) places

abbrev pub ends_in : List Places → List (Option State)
ends_in places = map (λ p. p.end) places

-- the ends of the first rows, as far as each has one
unfoldable pub ends_of : ℕ → List (Option State) → List State
ends_of zero ends = []
ends_of (suc n) [] = []
ends_of (suc n) (None ∷ ends) = []
ends_of (suc n) (Some end ∷ ends) = end ∷ ends_of n ends

-- a record can be put into the row of a number without memory
pub record IsRoom (places : List Places) (most index : ℕ) : Type 0 where
  pub there : index < length places
  pub room : IfSome (slice_get places index) (λ p. ¬ (length p.records ≡ most) → length p.records < p.room)

-- the first record of a row after the name of the next one was noted
abbrev pub with_next : ℕ → List Linked → List Linked
with_next name [] = []
with_next name (r ∷ records) = record r { next = Some name } ∷ records

-- the first record has this name, and no other one has it
abbrev pub IsOwnName : List Linked → ℕ → Type 0
IsOwnName records name = (r : Linked) → Contains records r → r.name ≡ name → slice_get records 0 ≡ Some r

-- a record that is named next starts where this one ends
abbrev pub Leads : (pages span : ℕ) → Linked → List Linked → Type 0
Leads pages span r next = (n : Linked) → Contains next n → r.next ≡ Some n.name → n.span.start ≡ end_of pages span r.span

-- Each record has its number. The valid ones are there, and each row has at most `most`. What is known of the next ones is so, and a new
-- name is none of those that are known.
pub record AreRows (pages span : ℕ) (rows : List (List Linked)) (valid most names : ℕ) : Type 0 where
  pub some : 0 < most
  pub numbers : (i : ℕ) (r : Linked) → Contains (row_at rows i) r → r.span.index ≡ i
  pub joined : (i : ℕ) → i < valid → 0 < length (row_at rows i)
  pub few : (i : ℕ) → length (row_at rows i) ≤ most
  pub fresh : (i : ℕ) (r : Linked) → Contains (row_at rows i) r → IfSome r.next (λ name. name < names)
  pub follow : (i : ℕ) (r : Linked) → Contains (row_at rows i) r → Leads pages span r (row_at rows (i + 1))
