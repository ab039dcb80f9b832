use Rattle.std.proofs.Common.{refl}
use Rattle.r3k_pages.proofs.Ascending.{if_ok_too}
use Rattle.present_run.specs.Reuse.{stay}
use Rattle.present_run.proofs.runs.Runs.extend.Goals as goal

pub returns-in_err-start-clause-turns : goal.returns-in_err-start-clause-turns
returns-in_err-start-clause-turns g c = stay _ refl

pub returns-in-Some-clause-count : goal.returns-in-Some-clause-count
returns-in-Some-clause-count g c =
    if_ok_too _ c.join_kept.result c.join_kept.ensures.joined (λ x joined none. absurd (none (λ far. far c.in-Some.place (c.in-Some.ensures {u = tt}))))
