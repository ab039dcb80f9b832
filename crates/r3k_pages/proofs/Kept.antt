-- The words of a snapshot by their places.
use Rattle.std.proofs.Common.{◌≡◌, ℕ, suc, ◌/◌, ◌%◌, ◌<◌, List, [], ◌∷◌, map, length, slice_index, slice_index_or, Option, Some, Result, Ok, Err, IfOk, IfSome, MatchResult, IsFalse, sym, ap, subst, ◌∙◌, arith, refl, inl, inr}
use Rattle.std.proofs.lemmas.List.{get_or-map}
use Rattle.std.proofs.lemmas.List.FromFn.{get_or-map-range_with_len, length-map-range_with_len}
use Rattle.std.proofs.lemmas.Grind.{same_number_lists}
use Rattle.std.proofs.lemmas.Bool.{cases_Bool, eqb-true, true≢false}
use Rattle.std.proofs.Common.{Bool, true, false, ◌||◌, nat_eq}
use Rattle.r3k_word.specs.Layout.{page_of_place, word_count_of}
use Rattle.r3k_word.specs.declared.layout.TheConstants.{PAGE_WORDS}
use Rattle.r3k_pages.specs.declared.group.TheConstants.{GROUP_PAGES}
use Rattle.r3k_pages.specs.Groups.{word_in, words_in}
use Rattle.r3k_pages.specs.Pages.{SameOutside, SamePage, holds, page_count_of}

-- what holds of an answer, where something else does
pub if_ok : {A E : Type 0} {R : A → Type 0} (P : A → Type 0) (Q : E → Type 0) (r : Result A E) → MatchResult r P Q → ((x : A) → P x → R x) → IfOk r R
if_ok P Q (Ok x) p f = f x p
if_ok P Q (Err e) p f = tt

pub if_some : {A : Type 0} (P : A → Type 0) (o : Option A) (x : A) → o ≡ Some x → IfSome o P → P x
if_some P o x is p = subst (λ o. IfSome o P) is p

pub word_is : (pages : ℕ) (groups : List (List (List ℕ))) (place : ℕ) → place < word_count_of pages
    → slice_index (words_in pages groups) place ≡ word_in groups place
word_is pages groups place within = get_or-map-range_with_len (word_in groups) 0 (word_count_of pages) place place 0 within (omega arith)

pub words_long : (pages : ℕ) (groups : List (List (List ℕ))) → length (words_in pages groups) ≡ word_count_of pages
words_long pages groups = length-map-range_with_len (word_in groups) 0 (word_count_of pages)

-- words that stand in groups of pages
pub words_are : (pages : ℕ) (groups : List (List (List ℕ))) (words : List ℕ) → length words ≡ word_count_of pages
    → ((place : ℕ) → place < word_count_of pages → word_in groups place ≡ slice_index words place) → words_in pages groups ≡ words
words_are pages groups words long each =
    same_number_lists (words_in pages groups) words (words_long pages groups ∙ sym long)
    (λ place within.
    let inside = subst (λ (n : ℕ). place < n) (words_long pages groups) within in
    word_is pages groups place inside ∙ each place inside)

-- a group that a snapshot keeps
pub kept_in : {A : Type 0} (f : A → List (List ℕ)) (items : List A) (d : A) (pages place group : ℕ) → place < word_count_of pages
    → page_of_place place / GROUP_PAGES ≡ group → group < length items
    → slice_index (slice_index_or (f (slice_index_or items group d)) (page_of_place place % GROUP_PAGES) []) (place % PAGE_WORDS)
    ≡ slice_index (words_in pages (map f items)) place
kept_in f items d pages place group within of inside =
    let word_of : List (List ℕ) → ℕ = λ kept. slice_index (slice_index_or kept (page_of_place place % GROUP_PAGES) []) (place % PAGE_WORDS) in
    sym (word_is pages (map f items) place within
    ∙ (ap (λ (n : ℕ). word_of (slice_index_or (map f items) n [])) of
    ∙ ap word_of (get_or-map f items group d [] inside)))

-- a test of two that fails
pub neither : (a b : Bool) → IsFalse (a || b) → (a ≡ false) × (b ≡ false)
neither true b h = absurd (true≢false h)
neither false b h = (refl, h)

-- a page that is in a set has a place in it
pub held_at : (set : List ℕ) (page : ℕ) → holds set page ≡ true → (k : ℕ) × (k < length set) × (slice_index set k ≡ page)
held_at [] page is = absurd (true≢false (sym is))
held_at (other ∷ set) page is =
    elim (cases_Bool (nat_eq other page)) [
      | inl here ↦ (0, omega arith, eqb-true other page here)
      | inr apart ↦
          let rest = held_at set page (sym (ap (λ (b : Bool). b || holds set page) apart) ∙ is) in
          (suc rest.0, omega (arith, rest.1), rest.2)
    ]

-- memories that are the same outside a set of pages and on its pages are the same
pub all_same : (set a b : List ℕ) → length a ≡ length b → SameOutside set a b → ((k : ℕ) → k < length set → SamePage (slice_index set k) a b) → a ≡ b
all_same set a b long outside inside =
    same_number_lists a b long
    (λ place within.
    elim (cases_Bool (holds set (page_of_place place))) [
      | inl held ↦
          let at = held_at set (page_of_place place) held in
          inside at.0 at.1 place (sym at.2)
      | inr other ↦ outside place other
    ])

pub all_pages_same : (pages : ℕ) (a b : List ℕ) → length a ≡ word_count_of pages → length b ≡ word_count_of pages
    → ((page : ℕ) → page < page_count_of pages → SamePage page a b) → a ≡ b
all_pages_same pages a b long_a long_b same =
    same_number_lists a b (long_a ∙ sym long_b)
    (λ place within. same (page_of_place place) (omega (arith, within, long_a)) place refl)
