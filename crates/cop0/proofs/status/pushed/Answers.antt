use Rattle.std.proofs.Common.{ℕ, ap, arith}
use Rattle.r3k_word.specs.Word.{with_field_of}
use Rattle.cop0.proofs.status.pushed.Goals as goal

pub returns : goal.returns
returns c = rw (c.with_field.ensures, c.field.ensures.value) (ap (λ (n : ℕ). with_field_of 5 0 c.args.status n) (omega arith))
