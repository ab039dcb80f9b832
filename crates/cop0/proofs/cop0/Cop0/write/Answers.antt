use Rattle.std.proofs.Common.{refl}
use Rattle.cop0.proofs.cop0.Cop0.write.Goals as goal

pub returns-in-4 : goal.returns-in-4
returns-in-4 c = rw (c.in-4.is, c.merge-self-inside-in-4.ensures, ← c.self.view_is) refl

pub returns-in-12 : goal.returns-in-12
returns-in-12 c = rw (c.in-12.is, c.merge-self-inside-in-12.ensures, ← c.self.view_is) refl

pub returns-in-13 : goal.returns-in-13
returns-in-13 c = rw (c.in-13.is, c.merge-self-inside-in-13.ensures, ← c.self.view_is) refl
