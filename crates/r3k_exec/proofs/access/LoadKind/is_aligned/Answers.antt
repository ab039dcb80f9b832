use Rattle.std.proofs.Common.{inl, inr, refl}
use Rattle.r3k_exec.proofs.access.LoadKind.is_aligned.Goals as goal

pub returns-in-Half : goal.returns-in-Half
returns-in-Half c = elim c.in-Half.is [ inl is ↦ rw is refl | inr is ↦ rw is refl ]
