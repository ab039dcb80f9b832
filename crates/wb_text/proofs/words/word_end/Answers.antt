-- The place is the first that passes.
use Rattle.std.proofs.Common.{sym, arith}
use Rattle.std.proofs.lemmas.List.Sums.{position_or_len_is}
use Rattle.wb_text.specs.Words.{is_blank}
use Rattle.wb_text.proofs.words.word_end.Goals as goal

pub returns-then-is_blank_byte-clause-place : goal.returns-then-is_blank_byte-clause-place
returns-then-is_blank_byte-clause-place c =
    sym (position_or_len_is is_blank c.args.text.now c.loop-place.place 0 (omega arith) c.loop-place.invariant (λ _. cc))

pub returns-clause-place : goal.returns-clause-place
returns-clause-place c =
    sym (position_or_len_is is_blank c.args.text.now _ 0 (omega arith) (λ k below. c.loop-place.invariant k (omega arith)) (λ inside. absurd (omega arith)))
