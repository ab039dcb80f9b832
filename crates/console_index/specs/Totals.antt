-- Spans with running totals (own).
use Rattle.std.specs.Prelude.{◌≡◌, ℕ, ◌+◌, ◌<◌, ◌≤◌, List, length, map}
use Rattle.console_index.specs.Counts.{count_at, total}
use Rattle.console_index.specs.declared.index.TheConstants.{MAX_SPANS}
use Rattle.console_index.specs.declared.span.Span.{Span}

-- the counts by span
abbrev pub counts_of : List Span → List (List ℕ)
counts_of spans = map (λ span. span.counts) spans

-- the totals by span
abbrev pub totals_of : List Span → List (List ℕ)
totals_of spans = map (λ span. span.totals) spans

-- each span below `end` has the totals of all spans up to and with it
abbrev pub HasTotals : ℕ → List Span → Type 0
HasTotals end spans = (span : ℕ) → span < end → (line : ℕ) → line ≤ 3 →
    count_at (totals_of spans) line span ≡ total (counts_of spans) line (span + 1)

-- spans as an index has them, the first `summed` ones with their totals
pub record IsIndex (summed : ℕ) (spans : List Span) : Type 0 where
  pub few : length spans ≤ MAX_SPANS
  pub small : (span line : ℕ) → line ≤ 3 → count_at (counts_of spans) line span ≤ 1048576
  pub within : summed ≤ length spans
  pub totals : HasTotals summed spans
