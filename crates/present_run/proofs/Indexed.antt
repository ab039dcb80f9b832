-- What joined records report together, by a rule from each to the next: for those who know the run that they are records of.
use Rattle.std.proofs.Common.{◌≡◌, ℕ, zero, suc, ◌+◌, ◌-◌, ◌*◌, ◌<◌, ◌≤◌, List, length, Option, Some, None, sym, ap, subst, ◌∙◌, arith, add-one}
use Rattle.r3k_machine.specs.declared.target.Target.{Target}
use Rattle.r3k_machine.specs.Run.{last_writer, later}
use Rattle.span_fact.specs.Span.{Span}
use Rattle.checkpoints.specs.Kept.{first_at}
use Rattle.present_run.specs.Index.{Agrees, Has, Index, IsLastWriter, bytes_at, sent_below, steps_at}

-- an index agrees with records that are the same one by one
pub agrees_same : (pages span : ℕ) (index : Index) (old new : List (List Span)) → ((i : ℕ) → first_at new i ≡ first_at old i)
    → Agrees pages span index old → Agrees pages span index new
agrees_same pages span index old new same agrees = λ i. subst (λ (o : Option Span). Has pages span index i o) (sym (same i)) (agrees i)

-- the last writer below each record
abbrev pub Goes : (pages span : ℕ) → List (List Span) → (target : Target) (count : ℕ) → (ℕ → Option ℕ) → Type 0
Goes pages span spans target count below = (i : ℕ) → i < count → below (i + 1) ≡ later (i * span) (last_writer target (steps_at pages span spans i)) (below i)

none_between : (pages span : ℕ) (spans : List (List Span)) (target : Target) (count : ℕ) (below : ℕ → Option ℕ) → Goes pages span spans target count below
    → (from more : ℕ) → from + more ≤ count → ((i : ℕ) → from ≤ i → i < count → last_writer target (steps_at pages span spans i) ≡ None)
    → below (from + more) ≡ below from
none_between pages span spans target count below goes from zero within none = ap below (let e : from + zero ≡ from = omega arith in e)
none_between pages span spans target count below goes from (suc more) within none =
    ap below (let e : from + suc more ≡ from + more + 1 = omega arith in e)
    ∙ (goes (from + more) (omega (arith, within))
    ∙ (ap (λ (o : Option ℕ). later ((from + more) * span) o (below (from + more))) (none (from + more) (omega arith) (omega (arith, within)))
    ∙ none_between pages span spans target count below goes from more (omega (arith, within)) none))

-- the step of a last writer, counted from the start of the first record
abbrev pub step_of : ℕ → Option (ℕ × ℕ) → Option ℕ
step_of span None = None
step_of span (Some found) = Some (found.0 * span + found.1)

pub writer_joined : (pages span : ℕ) (spans : List (List Span)) (count : ℕ) (target : Target) (below : ℕ → Option ℕ) → below 0 ≡ None
    → Goes pages span spans target count below → (found : Option (ℕ × ℕ)) → IsLastWriter pages span spans count target found → below count ≡ step_of span found
writer_joined pages span spans count target below first goes None last =
    ap below (let e : count ≡ 0 + count = omega arith in e)
    ∙ (none_between pages span spans target count below goes 0 count (omega arith) (λ i low within. last i within) ∙ first)
writer_joined pages span spans count target below first goes (Some found) last =
    let at = found.0 in
    let more : ℕ = count - (at + 1) in
    ap below (let e : count ≡ at + 1 + more = omega (arith, last.0) in e)
    ∙ (none_between pages span spans target count below goes (at + 1) more (omega (arith, last.0)) (λ i low within. last.2 i (omega (arith, low)) within)
    ∙ (goes at last.0 ∙ ap (λ (o : Option ℕ). later (at * span) o (below at)) last.1))

-- how many bytes were sent below each record
pub sent_joined : (pages span : ℕ) (spans : List (List Span)) (line count : ℕ) (below : ℕ → ℕ) → below 0 ≡ 0
    → ((i : ℕ) → i < count → below (i + 1) ≡ below i + length (bytes_at pages span spans line i)) → sent_below pages span spans line count ≡ below count
unfolding sent_below
sent_joined pages span spans line zero below first goes = sym first
sent_joined pages span spans line (suc i) below first goes =
    ap (λ (n : ℕ). n + length (bytes_at pages span spans line i)) (sent_joined pages span spans line i below first (λ k within. goes k (omega (arith, within))))
    ∙ (sym (goes i (omega arith)) ∙ ap below (add-one i))
