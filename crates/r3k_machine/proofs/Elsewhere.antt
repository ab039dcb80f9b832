-- A step and a run from a state with other words in pages that they don't touch.
use Rattle.std.proofs.Common.{◌≡◌, ℕ, zero, suc, ◌+◌, Bool, false, ◌||◌, List, [], ◌∷◌, ◌++◌, IsFalse, refl, sym, subst, ◌∙◌}
use Rattle.std.proofs.Math.Path.{ap₂}
use Rattle.std.proofs.lemmas.Bool.{or_parts}
use Rattle.std.proofs.lemmas.List.Folds.{list_any-append}
use Rattle.input_log.specs.Event.{LogEvent}
use Rattle.r3k_machine.specs.declared.step.Done.{Done}
use Rattle.r3k_machine.specs.Core.{Core}
use Rattle.r3k_machine.specs.State.{State}
use Rattle.r3k_machine.specs.Step.{next, report}
use Rattle.r3k_machine.specs.Run.{run, trace, arriving}
use Rattle.r3k_machine.specs.Locality.{IsApart, IsWithPages, is_touched, touches}
use Rattle.r3k_machine.proofs.Untouched.{step_follows}

pub step_elsewhere : (pages : ℕ) (events : List LogEvent) (set : ℕ → Bool) (s t : State) (other : List ℕ)
    → IsWithPages set s other t → IsApart set (λ page. touches page (report pages events s))
    → (report pages events t ≡ report pages events s) × IsWithPages set (next pages events s) other (next pages events t)
step_elsewhere pages events set s t other w apart =
    subst (λ (core : Core). (report pages events (record { core = core; words = t.words }) ≡ report pages events s) × IsWithPages set (next pages events s) other (next pages events (record { core = core; words = t.words })))
    (sym w.core) (step_follows set s.words other t.words w.words pages events s.core apart)

-- what none of two parts touched
both : (set : ℕ → Bool) (first : List Done) (done : Done) → IsApart set (is_touched (first ++ done ∷ []))
    → IsApart set (is_touched first) × IsApart set (λ page. touches page done)
both set first done apart =
    let parts : (page : ℕ) → IsFalse (is_touched (first ++ done ∷ []) page) → IsFalse (is_touched first page) × IsFalse (touches page done) = λ page none.
    let halves = or_parts (is_touched first page) (touches page done || false) (sym (list_any-append (touches page) first (done ∷ [])) ∙ none) in
    (halves.0, (or_parts (touches page done) false halves.1).0) in
    ((λ page held. (parts page (apart page held)).0), (λ page held. (parts page (apart page held)).1))

pub run_elsewhere : (pages : ℕ) (log : List LogEvent) (time : ℕ) (set : ℕ → Bool) (s t : State) (other : List ℕ) (n : ℕ)
    → IsWithPages set s other t → IsApart set (is_touched (trace pages log time s n))
    → (trace pages log time t n ≡ trace pages log time s n) × IsWithPages set (run pages log time s n) other (run pages log time t n)
unfolding run trace
run_elsewhere pages log time set s t other zero w apart = (refl, w)
run_elsewhere pages log time set s t other (suc n) w apart =
    let events = arriving log (time + n) in
    let here = run pages log time s n in
    let free = both set (trace pages log time s n) (report pages events here) apart in
    let before = run_elsewhere pages log time set s t other n w free.0 in
    let step = step_elsewhere pages events set here (run pages log time t n) other before.1 free.1 in
    (ap₂ (λ (steps : List Done) (done : Done). steps ++ done ∷ []) before.0 step.0, step.1)
