-- A set of pages that loses some, and pages that can't differ.
use Rattle.std.proofs.Common.{◌≡◌, ℕ, ◌<◌, ◌≤◌, Bool, true, false, ◌&&◌, not, List, [], ◌∷◌, filter, length, nat_eq, slice_index_or, refl, sym, ap, ◌∙◌, arith, inl, inr}
use Rattle.std.specs.List.{AllByRecursion, IsDistinct}
use Rattle.std.proofs.lemmas.Bool.{cases_Bool, eqb-true}
use Rattle.std.proofs.lemmas.List.{get_or_past}
use Rattle.std.proofs.lemmas.List.Elements.{All-filter}
use Rattle.std.proofs.lemmas.Map.Keys.{IsDistinct-cons, IsDistinct-head, IsDistinct-tail}
use Rattle.std.proofs.lemmas.Map.Views.{any-filter_same}
use Rattle.r3k_word.specs.Layout.{word_count_of}
use Rattle.r3k_pages.specs.Marking.{AreMarked}
use Rattle.r3k_pages.specs.Pages.{SamePage, holds, page_count_of}

-- what differs from all differs from those that are kept
apart_kept : (test : ℕ → Bool) (page : ℕ) (set : List ℕ) → AllByRecursion (λ y. nat_eq page y ≡ false) set → AllByRecursion (λ y. nat_eq page y ≡ false) (filter test set)
apart_kept test page [] apart = tt
apart_kept test page (y ∷ set) apart =
    elim (cases_Bool (test y)) [
      | inl stays ↦ rw stays (apart.0, apart_kept test page set apart.1)
      | inr goes ↦ rw goes (apart_kept test page set apart.1)
    ]

once_kept : (test : ℕ → Bool) (set : List ℕ) → IsDistinct nat_eq set → IsDistinct nat_eq (filter test set)
once_kept test [] once = once
once_kept test (y ∷ set) once =
    let rest = once_kept test set (IsDistinct-tail nat_eq y set once) in
    elim (cases_Bool (test y)) [
      | inl stays ↦ rw stays (IsDistinct-cons nat_eq y (filter test set) (apart_kept test y set (IsDistinct-head nat_eq y set once)) rest)
      | inr goes ↦ rw goes rest
    ]

-- a set holds what it held and what passes
held_kept : (test : ℕ → Bool) (set : List ℕ) (page : ℕ) → holds (filter test set) page ≡ (test page && holds set page)
held_kept test set page = any-filter_same (λ other. nat_eq other page) test (test page) (λ other same. ap test (eqb-true other page same)) set

-- the marks that are left are those of the pages that are left
pub marked_less : (pages room : ℕ) (before after : List Bool) (set out : List ℕ) → AreMarked pages room before set → length after ≡ page_count_of pages
    → ((page : ℕ) → slice_index_or after page false ≡ (slice_index_or before page false && not (holds out page)))
    → AreMarked pages room after (filter (λ page. slice_index_or after page false) set)
marked_less pages room before after set out are long less = record {
  few = are.few;
  long = long;
  fits = are.fits;
  within = All-filter (λ page. slice_index_or after page false) (λ page. page < page_count_of pages) set are.within;
  once = once_kept (λ page. slice_index_or after page false) set are.once;
  marked = λ page.
      had (slice_index_or after page false) (slice_index_or before page false) (holds set page) (not (holds out page)) (less page) (are.marked page)
      ∙ sym (held_kept (λ page. slice_index_or after page false) set page);
}
  where
    had : (left was held stays : Bool) → left ≡ (was && stays) → was ≡ held → left ≡ (left && held)
    had true was true stays is same = refl
    had true was false stays is same = is ∙ ap (λ (b : Bool). b && stays) same
    had false was held stays is same = refl

-- after the last page nothing differs
pub past_same : (pages : ℕ) (a b : List ℕ) (page : ℕ) → length a ≡ word_count_of pages → length b ≡ word_count_of pages → page_count_of pages ≤ page → SamePage page a b
past_same pages a b page long_a long_b past place of = get_or_past a place 0 (omega (arith, long_a, past, of)) ∙ sym (get_or_past b place 0 (omega (arith, long_b, past, of)))
