-- The pages of a set in ascending order.
use Rattle.std.proofs.Common.{◌≡◌, ℕ, zero, suc, ◌+◌, ◌<◌, ◌≤◌, Bool, false, List, [], ◌∷◌, ◌++◌, filter, length, slice_index, Result, Ok, Err, IfOk, MatchResult, IsFalse, nat_eq, inl, inr, cond, refl, sym, ap, subst, ◌∙◌, arith}
use Rattle.std.proofs.Math.Path.{ap₂}
use Rattle.std.specs.List.{range_with_len}
use Rattle.std.proofs.lemmas.List.{append-nil}
use Rattle.std.proofs.lemmas.List.FromFn.{get_or-range_with_len, length-range_with_len}
use Rattle.std.proofs.lemmas.List.Elements.{All-filter, filter-append}
use Rattle.std.proofs.lemmas.List.Kept.{IsStrictlyIncreasing-filter}
use Rattle.std.proofs.lemmas.Bool.{cases_Bool, cases_lt, eq-eqb, eqb-true, true≢false}
use Rattle.std.proofs.lemmas.List.{get_or_past}
use Rattle.r3k_word.specs.Layout.{page_of_place, word_count_of}
use Rattle.r3k_pages.specs.Pages.{IsPageSet, SameOutside, holds, page_count_of, pages_where}

-- what holds of an answer, where something else does
pub if_ok : {A E : Type 0} {R : A → Type 0} (P : A → Type 0) (Q : E → Type 0) (r : Result A E) → MatchResult r P Q → ((x : A) → P x → R x) → IfOk r R
if_ok P Q (Ok x) p f = f x p
if_ok P Q (Err e) p f = tt

pub if_ok_too : {A E : Type 0} {R : A → Type 0} (P : A → Type 0) (r : Result A E) → IfOk r P → ((x : A) → P x → R x) → IfOk r R
if_ok_too P (Ok x) p f = f x p
if_ok_too P (Err e) p f = tt

-- tests that agree on a range keep the same of it
pub same_kept : (p q : ℕ → Bool) (first n : ℕ) → ((k : ℕ) → k < first + n → p k ≡ q k) → filter p (range_with_len first n) ≡ filter q (range_with_len first n)
same_kept p q first zero same = refl
same_kept p q first (suc n) same =
    ap₂ (λ (b : Bool) (xs : List ℕ). cond b (first ∷ xs) xs) (same first (omega arith)) (same_kept p q (first + 1) n (λ k within. same k (omega (arith, within))))

-- a range with one number more
pub range_more : (first n : ℕ) → range_with_len first (suc n) ≡ range_with_len first n ++ (first + n) ∷ []
range_more first zero = ap (λ (k : ℕ). k ∷ []) (let e : first ≡ first + 0 = omega arith in e)
range_more first (suc n) =
    ap (λ (xs : List ℕ). first ∷ xs)
    (range_more (first + 1) n ∙ ap (λ (k : ℕ). range_with_len (first + 1) n ++ k ∷ []) (let e : first + 1 + n ≡ first + suc n = omega arith in e))

-- what is kept of it
pub kept_more : (test : ℕ → Bool) (n : ℕ) → filter test (range_with_len 0 (n + 1)) ≡ filter test (range_with_len 0 n) ++ cond (test n) (n ∷ []) []
kept_more test n =
    ap (λ (k : ℕ). filter test (range_with_len 0 k)) (let e : n + 1 ≡ suc n = omega arith in e)
    ∙ (ap (filter test) (range_more 0 n ∙ ap (λ (k : ℕ). range_with_len 0 n ++ k ∷ []) (let e : 0 + n ≡ n = omega arith in e))
    ∙ filter-append test (range_with_len 0 n) (n ∷ []))

-- a range with more numbers, which fail the test
pub none_more : (test : ℕ → Bool) (n more : ℕ) → ((k : ℕ) → n ≤ k → k < n + more → test k ≡ false)
    → filter test (range_with_len 0 (n + more)) ≡ filter test (range_with_len 0 n)
none_more test n zero none = ap (λ (k : ℕ). filter test (range_with_len 0 k)) (omega arith)
none_more test n (suc more) none =
    let so_far = filter test (range_with_len 0 (n + more)) in
    ap (λ (k : ℕ). filter test (range_with_len 0 k)) (let e : n + suc more ≡ n + more + 1 = omega arith in e)
    ∙ (kept_more test (n + more)
    ∙ (ap (λ (b : Bool). so_far ++ cond b ((n + more) ∷ []) []) (none (n + more) (omega arith) (omega arith))
    ∙ (append-nil so_far ∙ none_more test n more (λ k least below. none k least (omega (arith, below))))))

pub pages_set : (pages : ℕ) (test : ℕ → Bool) → IsPageSet pages (pages_where pages test)
pages_set pages test =
    let count = page_count_of pages in
    let range = range_with_len 0 count in
    let inside : (k : ℕ) → k < length range → k < count = λ k within. subst (λ (n : ℕ). k < n) (length-range_with_len 0 count) within in record {
      ascending = IsStrictlyIncreasing-filter test range
          (λ k within. omega (arith, get_or-range_with_len 0 count k 0 (omega (arith, inside (k + 1) within)), get_or-range_with_len 0 count (k + 1) 0 (inside (k + 1) within)));
      within = All-filter test (λ page. page < count) range
          (λ k d within. omega (arith, inside k within, get_or-range_with_len 0 count k d (inside k within)));
    }

not_equal : (a b : ℕ) → ¬ (a ≡ b) → nat_eq a b ≡ false
not_equal a b other = elim (cases_Bool (nat_eq a b)) [ inl same ↦ absurd (other (eqb-true a b same)) | inr apart ↦ apart ]

-- tests that agree on all pages keep the same ones
pub same_where : (pages : ℕ) (p q : ℕ → Bool) → ((page : ℕ) → page < page_count_of pages → p page ≡ q page) → pages_where pages p ≡ pages_where pages q
same_where pages p q same = same_kept p q 0 (page_count_of pages) (λ page within. same page (omega (arith, within)))

-- what a test keeps passes it
pub none_where : (pages : ℕ) (test : ℕ → Bool) (page : ℕ) → test page ≡ false → holds (pages_where pages test) page ≡ false
none_where pages test page fails = none test 0 (page_count_of pages) page fails
  where
    none : (test : ℕ → Bool) (first n page : ℕ) → test page ≡ false → holds (filter test (range_with_len first n)) page ≡ false
    none test first zero page fails = refl
    none test first (suc n) page fails =
        elim (cases_Bool (test first)) [
          | inl passes ↦
              let apart : nat_eq first page ≡ false = not_equal first page (λ same. true≢false (sym passes ∙ (ap test same ∙ fails))) in
              rw (passes, apart) (none test (first + 1) n page fails)
          | inr out ↦ rw out (none test (first + 1) n page fails)
        ]

-- whether a page is among those that pass a test
none_before : (test : ℕ → Bool) (first n page : ℕ) → page < first → holds (filter test (range_with_len first n)) page ≡ false
none_before test first zero page before = refl
none_before test first (suc n) page before =
    let apart : nat_eq first page ≡ false = not_equal first page (λ same. absurd (let e : ⊥ = omega (arith, same, before) in e)) in
    let rest = none_before test (first + 1) n page (omega (arith, before)) in
    elim (cases_Bool (test first)) [
      | inl passes ↦ rw (passes, apart) rest
      | inr fails ↦ rw fails rest
    ]

held : (test : ℕ → Bool) (first n page : ℕ) → first ≤ page → page < first + n → holds (filter test (range_with_len first n)) page ≡ test page
held test first zero page low high = absurd (let e : ⊥ = omega (arith, low, high) in e)
held test first (suc n) page low high =
    elim (cases_Bool (nat_eq first page)) [
      | inl here ↦
          let same : first ≡ page = eqb-true first page here in
          elim (cases_Bool (test first)) [
            | inl passes ↦ rw (passes, here) (sym (ap test (sym same) ∙ passes))
            | inr fails ↦ rw fails (none_before test (first + 1) n page (omega (arith, same)) ∙ sym (ap test (sym same) ∙ fails))
          ]
      | inr apart ↦
          let rest = held test (first + 1) n page
          (let e : first + 1 ≤ page = above first page low (λ same. true≢false (sym (eq-eqb first page same) ∙ apart)) in e) (omega (arith, high)) in
          elim (cases_Bool (test first)) [
            | inl passes ↦ rw (passes, apart) rest
            | inr fails ↦ rw fails rest
          ]
    ]
  where
    above : (a b : ℕ) → a ≤ b → ¬ (a ≡ b) → a + 1 ≤ b
    above a b low other = elim (cases_lt a b) [ inl less ↦ omega (arith, less) | inr not_less ↦ absurd (other (omega (arith, low, not_less))) ]

pub holds_where : (pages : ℕ) (test : ℕ → Bool) (page : ℕ) → page < page_count_of pages → holds (pages_where pages test) page ≡ test page
holds_where pages test page within = held test 0 (page_count_of pages) page (omega arith) (omega (arith, within))

-- words that stayed but for marked pages
pub outside_pages : (pages : ℕ) (test : ℕ → Bool) (a b : List ℕ) → length a ≡ word_count_of pages → length b ≡ word_count_of pages
    → ((place : ℕ) → IsFalse (test (page_of_place place)) → slice_index a place ≡ slice_index b place) → SameOutside (pages_where pages test) a b
outside_pages pages test a b long_a long_b same place none =
    elim (cases_lt place (word_count_of pages)) [
      | inl within ↦ same place (sym (holds_where pages test (page_of_place place) (omega (arith, within))) ∙ none)
      | inr past ↦ get_or_past a place 0 (omega (arith, past, long_a)) ∙ sym (get_or_past b place 0 (omega (arith, past, long_b)))
    ]
