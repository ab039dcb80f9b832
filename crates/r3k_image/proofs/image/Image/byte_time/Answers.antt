use Rattle.std.proofs.Common.{subst}
use Rattle.r3k_image.specs.Boot.{IsBoot}
use Rattle.r3k_image.specs.Segments.{views}
use Rattle.r3k_image.proofs.Kept.{is_boot}
use Rattle.r3k_image.proofs.image.Image.byte_time.Goals as goal

pub returns-clause-boot : goal.returns-clause-boot
returns-clause-boot c = subst IsBoot c.self.view_is (is_boot (views c.self.inside.segments.items) _ c.self.invariant)
