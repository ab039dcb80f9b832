-- Locality (own): what a step reports and leaves depends on the pages that it touches, and on no other page.
use Rattle.std.specs.Prelude.{◌≡◌, ℕ, Bool, false, ◌||◌, List, length, Option, Some, None, IsTrue, IsFalse, nat_eq, slice_index, slice_index_or}
use Rattle.std.specs.List.{list_any}
use Rattle.r3k_word.specs.Layout.{page_of_place}
use Rattle.r3k_machine.specs.declared.step.Done.{Done}
use Rattle.r3k_machine.specs.State.{State}

-- whether this is the page
abbrev pub is_page : ℕ → Option ℕ → Bool
is_page page None = false
is_page page (Some other) = nat_eq other page

-- the page that a step fetched from, if it did
abbrev pub fetched_page : Done → Option ℕ
fetched_page done = slice_index_or done.touched 0 None

-- whether a step touched a page: it fetched from it, or loaded from it or stored into it; and whether one of several steps did
abbrev pub touches : ℕ → Done → Bool
touches page done = is_page page (slice_index_or done.touched 0 None) || is_page page (slice_index_or done.touched 1 None)

abbrev pub is_touched : List Done → ℕ → Bool
is_touched steps page = list_any (touches page) steps

-- A set of pages is given as a test. This one has no page in common with another.
abbrev pub IsApart : (set other : ℕ → Bool) → Type 0
IsApart set other = (page : ℕ) → IsTrue (set page) → IsFalse (other page)

-- words that are those of one memory, but in the pages of a set those of another
pub record AreWithPages (set : ℕ → Bool) (own other words : List ℕ) : Type 0 where
  pub count : length words ≡ length own
  pub outside : (place : ℕ) → IsFalse (set (page_of_place place)) → slice_index own place ≡ slice_index words place
  pub inside : (place : ℕ) → IsTrue (set (page_of_place place)) → slice_index other place ≡ slice_index words place

-- a state that is another one, but with other words in the pages of a set
pub record IsWithPages (set : ℕ → Bool) (s : State) (other : List ℕ) (t : State) : Type 0 where
  pub core : t.core ≡ s.core
  pub words : AreWithPages set s.words other t.words
