use Rattle.std.proofs.Common.{subst, arith}
use Rattle.r3k_image.specs.Reading.{ReadsOrLacks}
use Rattle.r3k_image.proofs.Format.{is_found, image_at_again}
use Rattle.r3k_image.proofs.reading.read_image.Goals as goal

pub returns-clause-found : goal.returns-clause-found
returns-clause-found c = is_found c.args.bytes.now c.read_all.result (λ i. omega (arith, c.type_inv.bytes i)) c.read_all.ensures.exact

pub returns-clause-only : goal.returns-clause-only
returns-clause-only c = λ boot spells. subst (ReadsOrLacks (λ image. image) c.read_all.result) (image_at_again c.args.bytes.now boot spells) c.read_all.ensures.exact
