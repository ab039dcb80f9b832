use Rattle.std.proofs.Common.{◌∙◌, ◌/◌, ◌*◌, ◌%◌, ◌^◌, ℕ, ap, refl}
use Rattle.std.proofs.lemmas.Grind.{and_numeral}
use Rattle.r3k_word.specs.Word.{sign_extended}
use Rattle.r3k_exec.proofs.access.LoadKind.any_loaded.Goals as goal

pub returns-in-Byte : goal.returns-in-Byte
returns-in-Byte c = rw c.in-Byte.is (c.sign.ensures ∙ ap (λ (n : ℕ). sign_extended 8 n) (and_numeral (c.args.word / 2 ^ (8 * (c.args.address % 4))) 254 refl))
