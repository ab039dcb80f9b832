use Rattle.std.proofs.Common.{◌≡◌, ℕ, ◌<◌, slice_index, true}
use Rattle.asm_line.specs.Span.{is_in}
use Rattle.asm_line.proofs.span.end_of.Given as goal

abbrev pub invariant-loop-place : goal.invariant-loop-place
invariant-loop-place l = (k : ℕ) → k < l.place → is_in l.class (slice_index l.text k) ≡ true
