-- The end of a run with other pages, as a memory that is made of two.
use Rattle.std.proofs.Common.{◌≡◌, ℕ, ◌<◌, Bool, true, false, not, IsFalse, IsTrue, List, length, inl, inr, refl, sym, subst, ◌∙◌}
use Rattle.std.proofs.Math.Path.{ap₂}
use Rattle.std.proofs.lemmas.Bool.{cases_Bool, true≢false}
use Rattle.std.proofs.lemmas.Grind.{same_number_lists}
use Rattle.r3k_word.specs.Layout.{page_of_place}
use Rattle.r3k_machine.specs.Core.{Core}
use Rattle.r3k_machine.specs.State.{State}
use Rattle.r3k_machine.specs.Locality.{AreWithPages, IsApart, IsWithPages}
use Rattle.r3k_pages.specs.Pages.{SameOutside, SamePage, holds, overlaid}
use Rattle.r3k_pages.proofs.Overlaid.{overlaid_at, overlaid_long}

-- two states that are the same outside a set of pages
pub differing : (set : List ℕ) (s t : State) → t.core ≡ s.core → length t.words ≡ length s.words → SameOutside set s.words t.words → IsWithPages (holds set) s t.words t
differing set s t same long outside = record { core = same; words = record { count = long; outside = outside; inside = λ place held. refl } }

-- and two that are the same on the pages of one
pub same_on : (set : List ℕ) (s t : State) → t.core ≡ s.core → length t.words ≡ length s.words
    → ((page : ℕ) → IsTrue (holds set page) → SamePage page s.words t.words) → IsWithPages (λ page. not (holds set page)) s t.words t
same_on set s t same long on = record {
  core = same;
  words = record {
    count = long;
    outside = λ place held. on (page_of_place place) (not_not (holds set (page_of_place place)) held) place refl;
    inside = λ place free. refl;
  };
}
  where
    not_not : (b : Bool) → not b ≡ false → b ≡ true
    not_not true e = refl
    not_not false e = sym e

-- no page is both in a set and not in it
pub no_page_of_both : (set : List ℕ) → IsApart (λ page. not (holds set page)) (holds set)
no_page_of_both set page free = not_free (holds set page) free
  where
    not_free : (b : Bool) → not b ≡ true → b ≡ false
    not_free true e = sym e
    not_free false e = refl

-- two memories that are the same on some pages are so outside what others leave of a wider set
pub outside_carried : (touched wider carried : List ℕ) (a b : List ℕ) → ((page : ℕ) → IsTrue (holds touched page) → SamePage page a b) → SameOutside wider a b
    → ((page : ℕ) → IsTrue (holds wider page) → IsFalse (holds touched page) → IsTrue (holds carried page)) → SameOutside carried a b
outside_carried touched wider carried a b on outside all place free =
    let page = page_of_place place in
    elim (cases_Bool (holds touched page)) [
      | inl held ↦ on page held place refl
      | inr untouched ↦ elim (cases_Bool (holds wider page)) [
        | inl differs ↦ absurd (true≢false (sym (all page differs untouched) ∙ free))
        | inr same ↦ outside place same
      ]
    ]

words_overlaid : (set : List ℕ) (own other words : List ℕ) → AreWithPages (holds set) own other words → words ≡ overlaid set own other
words_overlaid set own other words w =
    same_number_lists words (overlaid set own other) (w.count ∙ sym (overlaid_long set own other))
    (λ place within.
    let at = overlaid_at set own other place (subst (λ (n : ℕ). place < n) w.count within) in
    elim (cases_Bool (holds set (page_of_place place))) [
      | inl held ↦ sym (w.inside place held) ∙ sym (at ∙ rw held)
      | inr free ↦ sym (w.outside place free) ∙ sym (at ∙ rw free)
    ])

pub state_overlaid : (set : List ℕ) (s : State) (other : List ℕ) (t : State) → IsWithPages (holds set) s other t
    → ◌≡◌ {A = State} t (record { core = s.core; words = overlaid set s.words other })
state_overlaid set s other t w =
    ap₂ {C = State} (λ (core : Core) (words : List ℕ). record { core = core; words = words }) w.core (words_overlaid set s.words other t.words w.words)
