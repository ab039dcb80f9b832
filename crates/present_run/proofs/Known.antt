-- What is known where a span starts.
use Rattle.std.proofs.Common.{◌≡◌, ℕ, ◌+◌, ◌*◌, IfSome, IsSomeAnd, List, Option, Some, None, refl, sym, ap, subst, ◌∙◌}
use Rattle.std.proofs.lemmas.Option.{IfSome_then}
use Rattle.input_log.specs.Event.{LogEvent}
use Rattle.r3k_image.specs.Boot.{Boot}
use Rattle.r3k_machine.specs.State.{State}
use Rattle.r3k_machine.specs.Run.{state_at}
use Rattle.r3k_pages.specs.Pages.{SameOutside}
use Rattle.span_fact.specs.Span.{Span, end_of}
use Rattle.checkpoints.specs.Kept.{Follows, IsNear, NearlyApplies, first_at}
use Rattle.present_run.specs.Reuse.{IsServing, span_of}
use Rattle.present_run.specs.Runs.{EndsAt, EndsNear, IsKnown, IsKnownAfter}
use Rattle.present_run.specs.declared.frontier.Frontier.{Frontier}
use Rattle.present_run.proofs.Near.{end_from}
use Rattle.present_run.proofs.Spans.{ends, if_some}

-- the start of a record, from the end of one that leads to it
pub led : (pages span : ℕ) (set : List ℕ) (here : State) (o p : Option Span) → EndsNear pages span o set here → Follows pages span o p
    → IfSome p (λ s. SameOutside set s.start.words here.words)
led pages span set here None p near follows = absurd near
led pages span set here (Some r) None near follows = tt
led pages span set here (Some r) (Some s) near follows = subst (λ (start : State). SameOutside set start.words here.words) (sym follows) near

-- where a span ends whose record serves
pub end_known : (pages span : ℕ) (image : Boot) (log : List LogEvent) (index : ℕ) (start end : State) (o : Option Span) → start ≡ state_at pages image log (index * span)
    → IsServing pages span (record { image = image; log = log }) index o → IfSome o (λ s. s.index ≡ index) → IfSome o (λ s. end ≡ end_of pages span (record s { start = start }))
    → end ≡ state_at pages image log ((index + 1) * span)
end_known pages span image log index start end None there near number is = absurd near
end_known pages span image log index start end (Some r) there near number is =
    is ∙ (end_from pages span r (span_of pages span image log index) start there number near.same_events ∙ ends pages span image log index)

-- a record serves with its own events
pub own_events : (pages span : ℕ) (o : Option Span) (start : State) (events : List LogEvent) → IsNear pages span o start events
    → IsSomeAnd o (λ s. NearlyApplies pages span s start s.events)
own_events pages span None start events near = near
own_events pages span (Some s) start events near = record { same_events = refl; same_core = near.same_core; same_touched = near.same_touched }

-- what is known goes by the records
pub known_by : {pages : ℕ} (span : ℕ) (old new : List (List Span)) (starts : ℕ → State) (f : Frontier pages)
    → ((i : ℕ) → first_at new i ≡ first_at old i) → IsKnown span old starts f → IsKnown span new starts f
known_by {pages} span old new starts f same known =
    IfSome_then f.after known
    (λ n known. record {
      near = subst (λ (o : Option Span). EndsNear pages span o f.differing (starts (n + 1))) (sym (same n)) known.near;
      exact = λ yes. subst (λ (o : Option Span). EndsAt pages span o (starts (n + 1))) (sym (same n)) (known.exact yes);
    })

-- it is known after the record before the span where the run stands
pub known_before : {pages : ℕ} (span : ℕ) (rows : List (List Span)) (starts : ℕ → State) (f : Frontier pages) (valid : ℕ) (here : State) → starts valid ≡ here
    → IsKnown span rows starts f → (index : ℕ) → index + 1 ≡ valid → f.after ≡ Some index → IsKnownAfter span rows index here f
known_before {pages} span rows starts f valid here is known index next after =
    subst (λ (s : State). IsKnownAfter span rows index s f) (ap starts next ∙ is) (if_some _ f.after index after known)

-- a record ends in the core of a state, and outside some pages with its words
pub ends_there : (pages span : ℕ) (set : List ℕ) (here : State) (o : Option Span) → EndsNear pages span o set here → IfSome o (λ s. (end_of pages span s).core ≡ here.core)
    → IfSome o (λ s. ((end_of pages span s).core ≡ here.core) × SameOutside set (end_of pages span s).words here.words)
ends_there pages span set here None near core = tt
ends_there pages span set here (Some s) near core = (core, near)
