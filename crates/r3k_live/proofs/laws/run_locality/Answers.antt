use Rattle.std.proofs.Common.{not}
use Rattle.r3k_machine.specs.Run.{run, trace}
use Rattle.r3k_live.specs.Record.{touched_pages}
use Rattle.r3k_pages.specs.Pages.{holds}
use Rattle.r3k_machine.proofs.Elsewhere.{run_elsewhere}
use Rattle.r3k_live.proofs.Apart.{apart_from_all, recorded}
use Rattle.r3k_live.proofs.Overlaid.{differing, no_page_of_both, same_on, state_overlaid}
use Rattle.r3k_live.proofs.laws.run_locality.Goals as goal

pub returns-clause-recorded : goal.returns-clause-recorded
returns-clause-recorded c = recorded

pub returns-clause-trace : goal.returns-clause-trace
returns-clause-trace c = λ pages log time set s t other n w apart. (run_elsewhere pages log time set s t other n w (apart_from_all pages log time set s n apart)).0

pub returns-clause-run : goal.returns-clause-run
returns-clause-run c = λ pages log time set s t other n w apart. (run_elsewhere pages log time set s t other n w (apart_from_all pages log time set s n apart)).1

pub returns-clause-near : goal.returns-clause-near
returns-clause-near c = λ pages log time s t n same long on.
    let touched = touched_pages pages (trace pages log time s n) in
    let none = apart_from_all pages log time (λ page. not (holds touched page)) s n (no_page_of_both touched) in
    (run_elsewhere pages log time (λ page. not (holds touched page)) s t t.words n (same_on touched s t same long on) none).0

pub returns-clause-end : goal.returns-clause-end
returns-clause-end c = λ pages log time set s t n same long outside apart.
    state_overlaid set (run pages log time s n) t.words (run pages log time t n)
    (run_elsewhere pages log time (holds set) s t t.words n (differing set s t same long outside) (apart_from_all pages log time (holds set) s n apart)).1
