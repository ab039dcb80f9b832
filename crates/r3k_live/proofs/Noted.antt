-- A set of virtual pages that gains one, and one that is empty again.
use Rattle.std.proofs.Common.{◌≡◌, ℕ, ◌^◌, ◌<◌, ◌≤◌, Bool, true, false, ◌||◌, ◌&&◌, not, List, [], ◌∷◌, ◌++◌, length, length-append, length-set, nat_eq, nat_lt, replicate, slice_index_or, slice_set, All, refl, sym, ap, subst, ◌∙◌, arith, inl, inr}
use Rattle.std.specs.List.{IsDistinct, list_any}
use Rattle.std.proofs.lemmas.Bool.{cases_Bool, eq-eqb, eqb-true, ltb-false, ltb-true}
use Rattle.std.proofs.lemmas.Grind.{common_steps}
use Rattle.std.proofs.lemmas.List.{get_or-replicate, get_or-set_other, get_or-set_same, get_or_past, length-replicate}
use Rattle.std.proofs.lemmas.List.Elements.{All-append, All-nil}
use Rattle.std.proofs.lemmas.Map.Steps.{length-le_from_distinct_below}
use Rattle.r3k_pages.specs.Pages.{holds}
use Rattle.r3k_pages.proofs.Kept.{held_at}
use Rattle.r3k_pages.proofs.Marked.{held_more, once_more}
use Rattle.r3k_pages.proofs.Set.{which}
use Rattle.r3k_live.specs.CodePages.{AreNoted}

-- equality of numbers turned
turned : (x y : ℕ) → nat_eq x y ≡ nat_eq y x
turned x y = grind arith

or_false : (b : Bool) → (b || false) ≡ b
or_false true = refl
or_false false = refl

or_true : (b : Bool) → (b || true) ≡ true
or_true true = refl
or_true false = refl

-- a page of a set is one of those that there are
below : (n : ℕ) (set : List ℕ) → All (λ page. page < n) set → (page : ℕ) → list_any (nat_eq page) set ≡ true → page < n
below n set all page is =
    let at = held_at set page (turned_all set page ∙ is) in
    subst (λ (x : ℕ). x < n) at.2 (all at.0 0 at.1)
  where
    turned_all : (set : List ℕ) (page : ℕ) → holds set page ≡ list_any (nat_eq page) set
    turned_all [] page = refl
    turned_all (y ∷ set) page = rw (turned y page, turned_all set page) refl

-- the one page
one : (n page : ℕ) → page < n → All (λ page. page < n) (page ∷ [])
one n page within = grind (arith, common_steps)

-- there is room for a page that is not there
pub room_more : (room : ℕ) (marks : List Bool) (set : List ℕ) (page : ℕ) → AreNoted room marks set → page < 2 ^ 20
    → slice_index_or marks page false ≡ false → length set < room
room_more room marks set page are within free =
    let n = 2 ^ 20 in
    let all : All (λ page. page < n) (set ++ page ∷ []) = All-append (λ page. page < n) set (page ∷ []) are.within (one n page within) in
    let most : length (set ++ page ∷ []) ≤ n =
    length-le_from_distinct_below (set ++ page ∷ []) n (once_more set page are.once (sym (are.marked page) ∙ free)) (below n (set ++ page ∷ []) all)
    in
    omega (arith, most, length-append set (page ∷ []), are.fits)

pub noted_more : (room : ℕ) (marks : List Bool) (set : List ℕ) (page : ℕ) → AreNoted room marks set → page < 2 ^ 20
    → slice_index_or marks page false ≡ false → AreNoted room (slice_set marks page true) (set ++ page ∷ [])
noted_more room marks set page are within free = record {
  long = length-set marks page true ∙ are.long;
  fits = are.fits;
  within = All-append (λ page. page < 2 ^ 20) set (page ∷ []) are.within (one (2 ^ 20) page within);
  once = once_more set page are.once (sym (are.marked page) ∙ free);
  marked = λ other.
      elim (which other page) [
        | inl here ↦
            ap (λ (n : ℕ). slice_index_or (slice_set marks page true) n false) here
            ∙ (get_or-set_same marks page true false (omega (arith, within, are.long))
            ∙ (sym (or_true (holds set other)) ∙ (ap (λ (b : Bool). holds set other || b) (sym (eq-eqb page other (sym here))) ∙ sym (held_more set page other))))
        | inr apart ↦
            get_or-set_other marks page other true false apart
            ∙ (are.marked other
            ∙ (sym (or_false (holds set other)) ∙ (ap (λ (b : Bool). holds set other || b) (sym (not_same page other (λ same. apart (sym same)))) ∙ sym (held_more set page other))))
      ];
}
  where
    not_same : (x y : ℕ) → ¬ (x ≡ y) → nat_eq x y ≡ false
    not_same x y apart =
        elim (cases_Bool (nat_eq x y)) [
          | inl same ↦ absurd (apart (eqb-true x y same))
          | inr other ↦ other
        ]

-- no page
none_distinct : IsDistinct nat_eq []
unfolding IsDistinct
none_distinct = tt

pub none_noted : (room : ℕ) (marks : List Bool) → length marks ≡ 2 ^ 20 → ((page : ℕ) → slice_index_or marks page false ≡ false)
    → 2 ^ 20 ≤ room → AreNoted room marks []
none_noted room marks long none fits = record {
  long = long;
  fits = fits;
  within = All-nil (λ page. page < 2 ^ 20);
  once = none_distinct;
  marked = λ page. none page;
}

pub none_in : (n page : ℕ) → slice_index_or (replicate n false) page false ≡ false
none_in n page =
    elim (cases_Bool (nat_lt page n)) [
      | inl within ↦ get_or-replicate n page false false (ltb-true page n within)
      | inr past ↦ get_or_past (replicate n false) page false (subst (λ (m : ℕ). m ≤ page) (sym (length-replicate n false)) (ltb-false page n past))
    ]

-- the marks of all pages of a set are taken away
pub none_left : (set : List ℕ) (marks left : List Bool) (page : ℕ) → slice_index_or marks page false ≡ holds set page
    → slice_index_or left page false ≡ (slice_index_or marks page false && not (holds set page)) → slice_index_or left page false ≡ false
none_left set marks left page was is = is ∙ (ap (λ (b : Bool). b && not (holds set page)) was ∙ both (holds set page))
  where
    both : (b : Bool) → (b && not b) ≡ false
    both true = refl
    both false = refl
