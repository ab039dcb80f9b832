-- Sets of pages by span (own). A set is an ascending list.
use Rattle.std.specs.Prelude.{◌≡◌, ℕ, ◌^◌, ◌<◌, ◌||◌, IsFalse, IsTrue, List, [], Option, None, Some, slice_index_or}
use Rattle.r3k_pages.specs.Pages.{holds}

-- the pages of a span; a missing span has none
abbrev pub pages_at : List (List ℕ) → ℕ → List ℕ
pages_at sets span = slice_index_or sets span []

-- a set has the pages of two
abbrev pub IsUnion : List ℕ → List ℕ → List ℕ → Type 0
IsUnion a b both = (page : ℕ) → holds both page ≡ (holds a page || holds b page)

-- the greatest span below one that has a page, or none where none has it
abbrev pub IsLast : List (List ℕ) → ℕ → ℕ → Option ℕ → Type 0
IsLast sets page before None = (i : ℕ) → i < before → IsFalse (holds (pages_at sets i) page)
IsLast sets page before (Some span) =
    (span < before) × IsTrue (holds (pages_at sets span) page) × ((i : ℕ) → span < i → i < before → IsFalse (holds (pages_at sets i) page))

-- a number has at most `digits` binary digits; zero has none
abbrev pub HasDigits : ℕ → ℕ → Type 0
HasDigits number digits = number < 2 ^ digits
