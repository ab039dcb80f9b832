use Rattle.std.proofs.Common.{refl}
use Rattle.std.proofs.lemmas.Bool.{ne_eqb}
use Rattle.r3k_machine.proofs.state.Core.is_unusable.Goals as goal

pub returns-then-field-eq16 : goal.returns-then-field-eq16
returns-then-field-eq16 c = rw (← c.self.view_is, c.is_usable.ensures, ← c.field.ensures.value, c.if-field-eq16.true) refl

pub returns-else-field-eq16 : goal.returns-else-field-eq16
returns-else-field-eq16 c = rw (← c.field.ensures.value, ne_eqb c.field.result 16 c.if-field-eq16.false) refl
