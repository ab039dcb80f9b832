-- Where a span ends whose record nearly applies.
use Rattle.std.proofs.Common.{◌≡◌, ℕ, ◌&&◌, Bool, not, true, false, IsFalse, IsTrue, List, [], ◌∷◌, length, arith, refl, sym, ap, subst, ◌∙◌}
use Rattle.std.proofs.Math.Path.{ap₂}
use Rattle.std.proofs.lemmas.Bool.{and_parts}
use Rattle.std.proofs.lemmas.Grind.{same_number_lists}
use Rattle.input_log.specs.Event.{LogEvent}
use Rattle.r3k_word.specs.Layout.{page_of_place}
use Rattle.r3k_machine.specs.Core.{Core}
use Rattle.r3k_machine.specs.State.{State}
use Rattle.r3k_machine.specs.Locality.{IsApart}
use Rattle.r3k_pages.specs.Pages.{SameOutside, holds, overlaid}
use Rattle.r3k_pages.proofs.Overlaid.{overlaid_long, overlaid_outside}
use Rattle.r3k_live.specs.Record.{touched_pages}
use Rattle.r3k_live.proofs.Overlaid.{outside_carried}
use Rattle.span_fact.specs.Span.{Span, end_of, steps_of}
use Rattle.checkpoints.specs.Kept.{NearlyApplies}
use Rattle.checkpoints.proofs.Near.{near_end}

-- a set without some of its pages
abbrev pub Loses : (old lost new : List ℕ) → Type 0
Loses old lost new = (page : ℕ) → holds new page ≡ (holds old page && not (holds lost page))

not_true : (b : Bool) → not b ≡ true → b ≡ false
not_true true e = sym e
not_true false e = refl

none_lost : (old lost new : List ℕ) → Loses old lost new → IsApart (holds new) (holds lost)
none_lost old lost new loses page held =
    not_true (holds lost page) (and_parts (holds old page) (not (holds lost page)) (sym (loses page) ∙ held)).1

all_others : (old lost new : List ℕ) → Loses old lost new → (page : ℕ) → IsTrue (holds old page) → IsFalse (holds lost page) → IsTrue (holds new page)
all_others old lost new loses page held free = loses page ∙ ap₂ (λ (a b : Bool). a && not b) held free

pub loses_by : (old lost touched new : List ℕ) → lost ≡ touched → Loses old lost new → Loses old touched new
loses_by old lost touched new is loses page = loses page ∙ ap (λ (set : List ℕ). holds old page && not (holds set page)) is

-- the start still differs on these pages alone
pub start_carried : (pages span : ℕ) (s : Span) (start : State) (events : List LogEvent) (old new : List ℕ) → NearlyApplies pages span s start events
    → Loses old (touched_pages pages (steps_of pages span s)) new → SameOutside old s.start.words start.words
    → SameOutside new s.start.words start.words
start_carried pages span s start events old new near loses same =
    let touched = touched_pages pages (steps_of pages span s) in
    outside_carried touched old new s.start.words start.words near.same_touched same (all_others old touched new loses)

pub end_carried : (pages span : ℕ) (s : Span) (start : State) (old new : List ℕ) → NearlyApplies pages span s start s.events
    → Loses old (touched_pages pages (steps_of pages span s)) new → SameOutside old s.start.words start.words → length start.words ≡ length s.start.words
    → ◌≡◌ {A = State} (end_of pages span (record s { start = start })) (record (end_of pages span s) { words = overlaid new (end_of pages span s).words start.words })
end_carried pages span s start old new near loses same long =
    let touched = touched_pages pages (steps_of pages span s) in
    near_end pages span s start s.events old new near long same (none_lost old touched new loses) (all_others old touched new loses)

-- and so does the end
pub after_carried : (pages span : ℕ) (s : Span) (start : State) (old new : List ℕ) → NearlyApplies pages span s start s.events
    → Loses old (touched_pages pages (steps_of pages span s)) new → SameOutside old s.start.words start.words → length start.words ≡ length s.start.words
    → SameOutside new (end_of pages span s).words (end_of pages span (record s { start = start })).words
after_carried pages span s start old new near loses same long =
    subst (λ (words : List ℕ). SameOutside new (end_of pages span s).words words)
    (sym (ap (λ (state : State). state.words) (end_carried pages span s start old new near loses same long)))
    (overlaid_outside new (end_of pages span s).words start.words)

-- nothing differs
pub exactly : (a b : State) (set : List ℕ) → SameOutside set a.words b.words → set ≡ [] → length b.words ≡ length a.words → a.core ≡ b.core → a ≡ b
exactly a b set same none long core =
    ap₂ {C = State} (λ (core : Core) (words : List ℕ). record { core = core; words = words }) core
    (same_number_lists a.words b.words (sym long) (λ place within. subst (λ (set : List ℕ). SameOutside set a.words b.words) none same place refl))

-- no page is taken from elsewhere
pub overlaid_none : (set own other : List ℕ) → set ≡ [] → overlaid set own other ≡ own
overlaid_none set own other none =
    same_number_lists (overlaid set own other) own (overlaid_long set own other)
    (λ place within. sym (overlaid_outside set own other place (ap (λ (set : List ℕ). holds set (page_of_place place)) none)))

pub empty : (set : List ℕ) → length set ≡ 0 → set ≡ []
empty [] none = refl
empty (page ∷ rest) none = absurd (let e : ⊥ = omega (arith, none) in e)
