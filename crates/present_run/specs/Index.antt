-- An index of the records that are kept of spans (own): the marks of what each of them wrote, and how many bytes of each line it sent.
use Rattle.std.specs.Prelude.{◌≡◌, ℕ, zero, suc, ◌+◌, ◌<◌, ◌≤◌, List, [], length, Option, Some, None}
use Rattle.r3k_machine.specs.declared.step.Done.{Done}
use Rattle.r3k_machine.specs.declared.target.Target.{Target}
use Rattle.r3k_machine.specs.Run.{last_writer}
use Rattle.r3k_live.specs.Marks.{marks_of}
use Rattle.r3k_live.specs.Record.{sent_from}
use Rattle.span_fact.specs.Span.{Span, steps_of}
use Rattle.checkpoints.specs.Kept.{first_at}
use Rattle.write_index.specs.declared.tree.TheConstants.{MAX_SPANS}
use Rattle.write_index.specs.Pages.{pages_at}
use Rattle.console_index.specs.Counts.{count_at}
use Rattle.present_run.specs.Sent.{bytes_on}

-- how many spans there may be
abbrev pub max_spans : ℕ
max_spans = MAX_SPANS

-- the marks and the counts by span
pub record Index : Type 0 where
  pub writes : List (List ℕ)
  pub consoles : List (List ℕ)

-- what the steps of a record reported; where none is kept there are no steps
abbrev pub steps_in : (pages span : ℕ) → Option Span → List Done
steps_in pages span None = []
steps_in pages span (Some s) = steps_of pages span s

abbrev pub steps_at : (pages span : ℕ) → List (List Span) → ℕ → List Done
steps_at pages span spans i = steps_in pages span (first_at spans i)

-- the bytes of a line that a record sent
abbrev pub bytes_at : (pages span : ℕ) → List (List Span) → (line i : ℕ) → List ℕ
bytes_at pages span spans line i = bytes_on line (sent_from 0 (steps_at pages span spans i))

-- an index has of a record the marks of what its steps wrote, and how many bytes of each line they sent
pub record Has (pages span : ℕ) (index : Index) (i : ℕ) (s : Option Span) : Type 0 where
  pub wrote : pages_at index.writes i ≡ marks_of pages (steps_in pages span s)
  pub sent : (line : ℕ) → line ≤ 3 → count_at index.consoles line i ≡ length (bytes_on line (sent_from 0 (steps_in pages span s)))

-- an index agrees with records: it has what each of them reports
abbrev pub Agrees : (pages span : ℕ) → Index → List (List Span) → Type 0
Agrees pages span index spans = (i : ℕ) → Has pages span index i (first_at spans i)

-- the last of the first `count` records that wrote a word or a register, with its last step that did, or none
abbrev pub IsLastWriter : (pages span : ℕ) → List (List Span) → (count : ℕ) → Target → Option (ℕ × ℕ) → Type 0
IsLastWriter pages span spans count target None = (i : ℕ) → i < count → last_writer target (steps_at pages span spans i) ≡ None
IsLastWriter pages span spans count target (Some found) =
    (found.0 < count) × (last_writer target (steps_at pages span spans (found.0)) ≡ Some (found.1))
    × ((i : ℕ) → found.0 < i → i < count → last_writer target (steps_at pages span spans i) ≡ None)

-- how many bytes of a line the first `count` records sent together
unfoldable pub sent_below : (pages span : ℕ) → List (List Span) → (line count : ℕ) → ℕ
sent_below pages span spans line zero = 0
sent_below pages span spans line (suc i) = sent_below pages span spans line i + length (bytes_at pages span spans line i)

-- which of the first `count` records sent the byte at a place of their console, or `count` where they sent fewer
pub record IsSender (pages span : ℕ) (spans : List (List Span)) (line place count index : ℕ) : Type 0 where
  pub within : index ≤ count
  pub from : sent_below pages span spans line index ≤ place
  pub to : index < count → place < sent_below pages span spans line (index + 1)
