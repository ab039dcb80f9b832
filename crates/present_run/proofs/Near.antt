-- Records that nearly are those of spans of the run.
use Rattle.std.proofs.Common.{◌≡◌, ℕ, ◌+◌, ◌*◌, IfSome, IsSome, List, [], ◌∷◌, length, slice_get, Option, None, Some, refl, sym, ap, subst, ◌∙◌, arith}
use Rattle.std.specs.List.{remove}
use Rattle.std.specs.Option.{option_map_or}
use Rattle.std.proofs.lemmas.Bool.{false≢true}
use Rattle.input_log.specs.Event.{LogEvent}
use Rattle.r3k_image.specs.Boot.{Boot}
use Rattle.r3k_machine.specs.State.{State}
use Rattle.r3k_machine.specs.Run.{run, state_at, trace}
use Rattle.span_fact.specs.Span.{Span, end_of, steps_of}
use Rattle.checkpoints.specs.Kept.{IsNear, NearlyApplies, promoted}
use Rattle.checkpoints.proofs.Near.{near_cores, near_steps}
use Rattle.present_run.specs.Reuse.{span_of}
use Rattle.present_run.specs.Ends.{IsJoined}
use Rattle.present_run.proofs.Spans.{ends, if_some}

-- a record that is there
pub nearly : (pages span : ℕ) (o : Option Span) (r : Span) (start : State) (events : List LogEvent) → o ≡ Some r → IsNear pages span o start events
    → NearlyApplies pages span r start events
nearly pages span o r start events is near = subst (λ (o : Option Span). IsNear pages span o start events) is near

-- the same in other words
pub moved : (pages span : ℕ) (o p : Option Span) (a b : State) (x y : List LogEvent) → o ≡ p → a ≡ b → x ≡ y → IsNear pages span o a x → IsNear pages span p b y
moved pages span o p a b x y op ab xy near =
    subst (λ (y : List LogEvent). IsNear pages span p b y) xy
    (subst (λ (b : State). IsNear pages span p b x) ab
    (subst (λ (p : Option Span). IsNear pages span p a x) op near))

-- its steps report what those of the span report
pub same_steps : (pages span index : ℕ) (o : Option Span) (r s : Span) → o ≡ Some r → s.index ≡ index → IsJoined pages span index o s
    → steps_of pages span r ≡ steps_of pages span s
same_steps pages span index o r s is number joined =
    sym (near_steps pages span r s.start s.events (nearly pages span o r s.start s.events is joined.near) (if_some _ o r is joined.long))
    ∙ ap (λ (n : ℕ). trace pages s.events (n * span) s.start span) (if_some _ o r is joined.number ∙ sym number)

-- it ends with the same core
same_core : (pages span : ℕ) (r s : Span) → NearlyApplies pages span r s.start s.events → length s.start.words ≡ length r.start.words → r.index ≡ s.index
    → (end_of pages span r).core ≡ (end_of pages span s).core
same_core pages span r s near long number =
    sym (near_cores pages span r s.start s.events near long span (omega arith)) ∙ ap (λ (n : ℕ). (run pages s.events (n * span) s.start span).core) number

pub core_after : (pages span : ℕ) (image : Boot) (log : List LogEvent) (index : ℕ) (o : Option Span) → IsJoined pages span index o (span_of pages span image log index)
    → IfSome o (λ r. (end_of pages span r).core ≡ (state_at pages image log ((index + 1) * span)).core)
core_after pages span image log index o joined = by_cases o joined.near joined.number joined.long
  where
    s : Span
    s = span_of pages span image log index

    by_cases : (o : Option Span) → IsNear pages span o s.start s.events → IfSome o (λ r. r.index ≡ index) → IfSome o (λ r. length s.start.words ≡ length r.start.words)
        → IfSome o (λ r. (end_of pages span r).core ≡ (state_at pages image log ((index + 1) * span)).core)
    by_cases None near number long = tt
    by_cases (Some r) near number long =
        same_core pages span r s near long number ∙ ap (λ (state : State). state.core) (ends pages span image log index)

-- the end of a span with another start
pub end_from : (pages span : ℕ) (r s : Span) (start : State) → start ≡ s.start → r.index ≡ s.index → r.events ≡ s.events
    → end_of pages span (record r { start = start }) ≡ end_of pages span s
end_from pages span r s start same number events =
    ap (λ (start : State). run pages r.events (r.index * span) start span) same
    ∙ (ap (λ (n : ℕ). run pages r.events (n * span) s.start span) number
    ∙ ap (λ (log : List LogEvent). run pages log (s.index * span) s.start span) events)

-- a record of the span itself
pub is_joined : (pages span : ℕ) (image : Boot) (log : List LogEvent) (index : ℕ) (o : Option Span) → o ≡ Some (span_of pages span image log index)
    → IsJoined pages span index o (span_of pages span image log index)
is_joined pages span image log index o is =
    let s : Span = span_of pages span image log index in
    subst (λ (o : Option Span). IsJoined pages span index o s) (sym is)
    (record { near = record { same_events = refl; same_core = refl; same_touched = λ page held place of. refl }; number = refl; long = refl })

pub is_there : (pages span : ℕ) (o : Option Span) (start : State) (events : List LogEvent) → IsNear pages span o start events → IsSome o
is_there pages span None start events near = absurd near
is_there pages span (Some r) start events near = refl

-- a record comes first
pub promoted_zero : (place : ℕ) (row : List Span) → place ≡ 0 → IsSome (slice_get row place) → promoted place row ≡ row
promoted_zero place row zero there = ap (λ (n : ℕ). promoted n row) zero ∙ by_cases row (subst (λ (n : ℕ). IsSome (slice_get row n)) zero there)
  where
    by_cases : (row : List Span) → IsSome (slice_get row 0) → promoted 0 row ≡ row
    by_cases [] there = absurd (false≢true there)
    by_cases (s ∷ rest) there = refl

pub first_promoted : (place : ℕ) (row : List Span) (s : Span) → slice_get row place ≡ Some s → slice_get (promoted place row) 0 ≡ Some s
first_promoted place row s is = ap (λ (o : Option Span). slice_get (option_map_or (λ s. s ∷ remove row place) o row) 0) is
