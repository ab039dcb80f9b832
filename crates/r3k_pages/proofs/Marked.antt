-- A set of pages that gains one.
use Rattle.std.proofs.Common.{◌≡◌, ℕ, ◌<◌, ◌≤◌, Bool, true, false, ◌||◌, List, [], ◌∷◌, ◌++◌, length, length-append, length-set, nat_eq, nat_lt, replicate, slice_index_or, slice_set, All, refl, sym, ap, subst, ◌∙◌, arith, inl, inr}
use Rattle.std.specs.List.{AllByRecursion, IsDistinct, list_any}
use Rattle.std.proofs.lemmas.Bool.{cases_Bool, eq-eqb, eqb-true, ltb-false, ltb-true}
use Rattle.std.proofs.lemmas.Grind.{common_steps}
use Rattle.std.proofs.lemmas.List.{get_or-replicate, get_or-set_other, get_or-set_same, get_or_past, length-replicate}
use Rattle.std.proofs.lemmas.List.Elements.{All-append, All-nil}
use Rattle.std.proofs.lemmas.List.Folds.{list_any-append}
use Rattle.std.proofs.lemmas.List.Sorted.{IsPermutation-sym, IsPermutation-to_front}
use Rattle.std.proofs.lemmas.Map.Keys.{IsDistinct-IsPermutation, IsDistinct-cons}
use Rattle.std.proofs.lemmas.Map.Steps.{length-le_from_distinct_below}
use Rattle.r3k_word.specs.declared.layout.TheConstants.{MAX_RAM_PAGES}
use Rattle.r3k_pages.specs.Marking.{AreMarked}
use Rattle.r3k_pages.specs.Pages.{holds, page_count_of}
use Rattle.r3k_pages.proofs.Kept.{held_at, neither}
use Rattle.r3k_pages.proofs.Set.{which}

-- equality of numbers turned
turned : (x y : ℕ) → nat_eq x y ≡ nat_eq y x
turned x y = grind arith

-- a page that is not there differs from each that is
apart : (set : List ℕ) (page : ℕ) → holds set page ≡ false → AllByRecursion (λ y. nat_eq page y ≡ false) set
apart [] page none = tt
apart (y ∷ set) page none =
    let parts = neither (nat_eq y page) (holds set page) none in
    (turned page y ∙ parts.0, apart set page parts.1)

pub once_more : (set : List ℕ) (page : ℕ) → IsDistinct nat_eq set → holds set page ≡ false → IsDistinct nat_eq (set ++ page ∷ [])
once_more set page once none =
    IsDistinct-IsPermutation nat_eq turned (page ∷ set) (set ++ page ∷ []) (IsPermutation-sym (set ++ page ∷ []) (page ∷ set) (IsPermutation-to_front set page))
    (IsDistinct-cons nat_eq page set (apart set page none) once)

or_false : (b : Bool) → (b || false) ≡ b
or_false true = refl
or_false false = refl

-- a set with one page more
pub held_more : (set : List ℕ) (page other : ℕ) → holds (set ++ page ∷ []) other ≡ (holds set other || nat_eq page other)
held_more set page other = list_any-append (λ x. nat_eq x other) set (page ∷ []) ∙ ap (λ (b : Bool). holds set other || b) (or_false (nat_eq page other))

-- a page of a set is one of memory
below : (n : ℕ) (set : List ℕ) → All (λ page. page < n) set → (page : ℕ) → list_any (nat_eq page) set ≡ true → page < n
below n set all page is =
    let at = held_at set page (turned_all set page ∙ is) in
    subst (λ (x : ℕ). x < n) at.2 (all at.0 0 at.1)
  where
    turned_all : (set : List ℕ) (page : ℕ) → holds set page ≡ list_any (nat_eq page) set
    turned_all [] page = refl
    turned_all (y ∷ set) page = rw (turned y page, turned_all set page) refl

-- the one page
one : (n page : ℕ) → page < n → All (λ page. page < n) (page ∷ [])
one n page within = grind (arith, common_steps)

-- a mark that is found not to be set
pub free_at : (marks : List Bool) (page : ℕ) (mark : Bool) → mark ≡ slice_index_or marks page mark → mark ≡ false → slice_index_or marks page false ≡ false
free_at marks page mark is off = ap (slice_index_or marks page) (sym off) ∙ (sym is ∙ off)

-- there is room for a page that is not there
pub room_more : (pages room : ℕ) (marks : List Bool) (set : List ℕ) (page : ℕ) → AreMarked pages room marks set → page < page_count_of pages
    → slice_index_or marks page false ≡ false → length set < room
room_more pages room marks set page are within free =
    let n = page_count_of pages in
    let all : All (λ page. page < n) (set ++ page ∷ []) = All-append (λ page. page < n) set (page ∷ []) are.within (one n page within) in
    let most : length (set ++ page ∷ []) ≤ n =
    length-le_from_distinct_below (set ++ page ∷ []) n (once_more set page are.once (sym (are.marked page) ∙ free)) (below n (set ++ page ∷ []) all)
    in
    omega (arith, most, length-append set (page ∷ []), are.fits)

pub marked_more : (pages room : ℕ) (marks : List Bool) (set : List ℕ) (page : ℕ) → AreMarked pages room marks set → page < page_count_of pages
    → slice_index_or marks page false ≡ false → AreMarked pages room (slice_set marks page true) (set ++ page ∷ [])
marked_more pages room marks set page are within free = record {
  few = are.few;
  long = length-set marks page true ∙ are.long;
  fits = are.fits;
  within = All-append (λ page. page < page_count_of pages) set (page ∷ []) are.within (one (page_count_of pages) page within);
  once = once_more set page are.once (sym (are.marked page) ∙ free);
  marked = λ other.
      elim (which other page) [
        | inl here ↦
            ap (λ (n : ℕ). slice_index_or (slice_set marks page true) n false) here
            ∙ (get_or-set_same marks page true false (omega (arith, within, are.long))
            ∙ (sym (or_true (holds set other)) ∙ (ap (λ (b : Bool). holds set other || b) (sym (eq-eqb page other (sym here))) ∙ sym (held_more set page other))))
        | inr apart ↦
            get_or-set_other marks page other true false apart
            ∙ (are.marked other
            ∙ (sym (or_false (holds set other)) ∙ (ap (λ (b : Bool). holds set other || b) (sym (not_same page other (λ same. apart (sym same)))) ∙ sym (held_more set page other))))
      ];
}
  where
    or_true : (b : Bool) → (b || true) ≡ true
    or_true true = refl
    or_true false = refl

    not_same : (x y : ℕ) → ¬ (x ≡ y) → nat_eq x y ≡ false
    not_same x y apart =
        elim (cases_Bool (nat_eq x y)) [
          | inl same ↦ absurd (apart (eqb-true x y same))
          | inr other ↦ other
        ]

-- no page
none_distinct : IsDistinct nat_eq []
unfolding IsDistinct
none_distinct = tt

pub none_marked : (pages room n : ℕ) (marks : List Bool) → pages ≤ MAX_RAM_PAGES → marks ≡ replicate n false → n ≡ page_count_of pages
    → page_count_of pages ≤ room → AreMarked pages room marks []
none_marked pages room n marks few is long fits = record {
  few = few;
  long = ap length is ∙ (length-replicate n false ∙ long);
  fits = fits;
  within = All-nil (λ page. page < page_count_of pages);
  once = none_distinct;
  marked = λ page. ap (λ (xs : List Bool). slice_index_or xs page false) is ∙ none n page;
}
  where
    none : (n page : ℕ) → slice_index_or (replicate n false) page false ≡ false
    none n page =
        elim (cases_Bool (nat_lt page n)) [
          | inl within ↦ get_or-replicate n page false false (ltb-true page n within)
          | inr past ↦ get_or_past (replicate n false) page false (subst (λ (m : ℕ). m ≤ page) (sym (length-replicate n false)) (ltb-false page n past))
        ]
