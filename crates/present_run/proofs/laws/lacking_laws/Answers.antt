use Rattle.present_run.proofs.Lacking.{bounded, lacks_most, lacks_one, lacks_some}
use Rattle.present_run.proofs.laws.lacking_laws.Goals as goal

pub returns-clause-some : goal.returns-clause-some
returns-clause-some c = lacks_some

pub returns-clause-one : goal.returns-clause-one
returns-clause-one c = lacks_one

pub returns-clause-most : goal.returns-clause-most
returns-clause-most c = lacks_most

pub returns-clause-bounds : goal.returns-clause-bounds
returns-clause-bounds c = bounded
