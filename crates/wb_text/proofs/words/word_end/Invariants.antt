use Rattle.std.proofs.Common.{◌≡◌, ℕ, ◌<◌, slice_index, false}
use Rattle.wb_text.specs.Words.{is_blank}
use Rattle.wb_text.proofs.words.word_end.Given as goal

abbrev pub invariant-loop-place : goal.invariant-loop-place
invariant-loop-place l = (k : ℕ) → k < l.place → is_blank (slice_index l.text k) ≡ false
