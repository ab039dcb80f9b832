use Rattle.r3k_pages.proofs.Overlaid as overlaid
use Rattle.r3k_pages.proofs.laws.page_laws.Goals as goal

pub returns-clause-overlaid_outside : goal.returns-clause-overlaid_outside
returns-clause-overlaid_outside c = overlaid.overlaid_outside

pub returns-clause-overlaid_on : goal.returns-clause-overlaid_on
returns-clause-overlaid_on c = overlaid.overlaid_on
