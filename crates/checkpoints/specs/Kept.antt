-- Records of spans that are kept (own).
use Rattle.std.specs.Prelude.{◌≡◌, ℕ, IsTrue, List, [], ◌∷◌, Option, Some, None, slice_get, slice_index_or}
use Rattle.std.specs.List.{remove}
use Rattle.std.specs.Option.{option_map_or}
use Rattle.input_log.specs.Event.{LogEvent}
use Rattle.r3k_machine.specs.State.{State}
use Rattle.r3k_pages.specs.Pages.{SamePage, holds}
use Rattle.r3k_live.specs.Record.{touched_pages}
use Rattle.span_fact.specs.Span.{Span, end_of, steps_of}

-- Records of spans: a row for each number, of at most so many, the one that was used last first. The first ones of so many rows are
-- those of the present run. Of one number there may be room for a record. Of the first numbers there is the state where a span ends.
pub record Kept : Type 0 where
  pub rows : List (List Span)
  pub valid : ℕ
  pub most : ℕ
  pub reserved : Option ℕ
  pub ends : List State

-- the row of a number
abbrev pub row_at : {A : Type 0} → List (List A) → ℕ → List A
row_at rows index = slice_index_or rows index []

-- the record of a number that was used last, if one is kept
abbrev pub first_at : List (List Span) → ℕ → Option Span
first_at rows index = slice_get (row_at rows index) 0

-- a row after the record at a place was used: it comes first, and the others follow in their order
abbrev pub promoted : {A : Type 0} → ℕ → List A → List A
promoted place row = option_map_or (λ s. s ∷ remove row place) (slice_get row place) row

-- both are there, and one starts where the other ends
abbrev pub Follows : (pages span : ℕ) → Option Span → Option Span → Type 0
Follows pages span None b = ⊥
Follows pages span (Some a) None = ⊥
Follows pages span (Some a) (Some b) = b.start ≡ end_of pages span a

-- two memories have the same words on the pages of a set
abbrev pub SameOn : List ℕ → List ℕ → List ℕ → Type 0
SameOn set a b = (page : ℕ) → IsTrue (holds set page) → SamePage page a b

-- a span nearly applies: it has these events, and its start differs from this one only in words of pages that it does not touch
pub record NearlyApplies (pages span : ℕ) (s : Span) (start : State) (events : List LogEvent) : Type 0 where
  pub same_events : s.events ≡ events
  pub same_core : s.start.core ≡ start.core
  pub same_touched : SameOn (touched_pages pages (steps_of pages span s)) s.start.words start.words

-- there is a span, and it nearly applies
abbrev pub IsNear : (pages span : ℕ) → Option Span → State → List LogEvent → Type 0
IsNear pages span None start events = ⊥
IsNear pages span (Some s) start events = NearlyApplies pages span s start events

-- no span of a row nearly applies
abbrev pub AreFar : (pages span : ℕ) → List Span → State → List LogEvent → Type 0
AreFar pages span row start events = (place : ℕ) → ¬ IsNear pages span (slice_get row place) start events
