use Rattle.r3k_word.proofs.FieldLaws.{written, above, below}
use Rattle.r3k_word.proofs.laws.field_laws.Goals as goal

pub returns-clause-written : goal.returns-clause-written
returns-clause-written c = written

pub returns-clause-above : goal.returns-clause-above
returns-clause-above c = above

pub returns-clause-below : goal.returns-clause-below
returns-clause-below c = below
