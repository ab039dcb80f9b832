-- One word of a memory that is set, in its page and group.
use Rattle.std.proofs.Common.{◌≡◌, ℕ, ◌/◌, ◌%◌, ◌<◌, ◌⊎◌, List, [], map, length, length-set, nat_eq, slice_index, slice_index_or, slice_set, sym, ap, subst, ◌∙◌, arith, inl, inr}
use Rattle.std.proofs.lemmas.Bool.{cases_Bool, eq-eqb, eqb-true, true≢false}
use Rattle.std.proofs.lemmas.List.{get_or-set_same, get_or-set_other, get_or-map, length-map, map-set}
use Rattle.r3k_word.specs.Layout.{page_of_place, word_count_of}
use Rattle.r3k_word.specs.declared.layout.TheConstants.{PAGE_WORDS}
use Rattle.r3k_pages.specs.declared.group.TheConstants.{GROUP_PAGES}
use Rattle.r3k_pages.specs.Groups.{group_count_of, word_in, words_in}
use Rattle.r3k_pages.proofs.Kept.{word_is, words_are, words_long}

-- whether two numbers are the same
pub which : (i j : ℕ) → (i ≡ j) ⊎ ¬ (i ≡ j)
which i j =
    elim (cases_Bool (nat_eq i j)) [
      | inl here ↦ inl (eqb-true i j here)
      | inr apart ↦ inr (λ same. true≢false (sym (eq-eqb i j same) ∙ apart))
    ]

-- one pointer of several in place of another
pub pointer_set : {A B : Type 0} (f : A → B) (items : List A) (old : List B) (index : ℕ) (a : A) (b : B) → map f items ≡ old → f a ≡ b
    → map f (slice_set items index a) ≡ slice_set old index b
pointer_set f items old index a b same is = map-set f items index a ∙ (ap (λ xs. slice_set xs index (f a)) same ∙ ap (slice_set old index) is)

-- a group with a word of a page set
abbrev pub group_with : List (List ℕ) → (index place word : ℕ) → List (List ℕ)
group_with group index place word = slice_set group index (slice_set (slice_index_or group index []) place word)

-- the groups of a memory with a word set
abbrev pub groups_with : List (List (List ℕ)) → (place word : ℕ) → List (List (List ℕ))
groups_with groups place word =
    slice_set groups (page_of_place place / GROUP_PAGES)
    (group_with (slice_index_or groups (page_of_place place / GROUP_PAGES) []) (page_of_place place % GROUP_PAGES) (place % PAGE_WORDS) word)

-- the word itself
hit : (groups : List (List (List ℕ))) (place word : ℕ) → page_of_place place / GROUP_PAGES < length groups
    → length (slice_index_or groups (page_of_place place / GROUP_PAGES) []) ≡ GROUP_PAGES
    → length (slice_index_or (slice_index_or groups (page_of_place place / GROUP_PAGES) []) (page_of_place place % GROUP_PAGES) []) ≡ PAGE_WORDS
    → word_in (groups_with groups place word) place ≡ word
hit groups place word inside pages words =
    let g = page_of_place place / GROUP_PAGES in
    let p = page_of_place place % GROUP_PAGES in
    let o = place % PAGE_WORDS in
    let group = slice_index_or groups g [] in
    let page = slice_index_or group p [] in
    let p_in : p < length group = omega (arith, pages) in
    let o_in : o < length page = omega (arith, words) in
    ap (λ (x : List (List ℕ)). slice_index (slice_index_or x p []) o) (get_or-set_same groups g (group_with group p o word) [] inside)
    ∙ (ap (λ (x : List ℕ). slice_index x o) (get_or-set_same group p (slice_set page o word) [] p_in) ∙ get_or-set_same page o word 0 o_in)

-- another word
miss : (groups : List (List (List ℕ))) (place word at : ℕ) → page_of_place place / GROUP_PAGES < length groups
    → length (slice_index_or groups (page_of_place place / GROUP_PAGES) []) ≡ GROUP_PAGES
    → ¬ (at ≡ place) → word_in (groups_with groups place word) at ≡ word_in groups at
miss groups place word at inside pages other =
    let g = page_of_place place / GROUP_PAGES in
    let p = page_of_place place % GROUP_PAGES in
    let o = place % PAGE_WORDS in
    let h = page_of_place at / GROUP_PAGES in
    let q = page_of_place at % GROUP_PAGES in
    let r = at % PAGE_WORDS in
    let group = slice_index_or groups g [] in
    let page = slice_index_or group p [] in
    let new = group_with group p o word in
    let p_in : p < length group = omega (arith, pages) in
    elim (which h g) [
      | inr apart ↦ ap (λ (x : List (List ℕ)). slice_index (slice_index_or x q []) r) (get_or-set_other groups g h new [] apart)
      | inl same ↦
          let there : slice_index (slice_index_or new q []) r ≡ slice_index (slice_index_or group q []) r =
          elim (which q p) [
            | inr apart ↦ ap (λ (x : List ℕ). slice_index x r) (get_or-set_other group p q (slice_set page o word) [] apart)
            | inl also ↦
                ap (λ (n : ℕ). slice_index (slice_index_or new n []) r) also
                ∙ (ap (λ (x : List ℕ). slice_index x r) (get_or-set_same group p (slice_set page o word) [] p_in)
                ∙ (get_or-set_other page o r word 0 (λ equal. other (omega (arith, same, also, equal)))
                ∙ ap (λ (n : ℕ). slice_index (slice_index_or group n []) r) (sym also)))
          ]
          in
          ap (λ (n : ℕ). slice_index (slice_index_or (slice_index_or (groups_with groups place word) n []) q []) r) same
          ∙ (ap (λ (x : List (List ℕ)). slice_index (slice_index_or x q []) r) (get_or-set_same groups g new [] inside)
          ∙ (there ∙ ap (λ (n : ℕ). slice_index (slice_index_or (slice_index_or groups n []) q []) r) (sym same)))
    ]

-- all words of a memory with a word set
pub words_set : (pages : ℕ) (groups : List (List (List ℕ))) (place word : ℕ) → place < word_count_of pages → length groups ≡ group_count_of pages
    → length (slice_index_or groups (page_of_place place / GROUP_PAGES) []) ≡ GROUP_PAGES
    → length (slice_index_or (slice_index_or groups (page_of_place place / GROUP_PAGES) []) (page_of_place place % GROUP_PAGES) []) ≡ PAGE_WORDS
    → words_in pages (groups_with groups place word) ≡ slice_set (words_in pages groups) place word
words_set pages groups place word within count whole words =
    let old = words_in pages groups in
    let inside : page_of_place place / GROUP_PAGES < length groups = omega (arith, within, count) in
    words_are pages (groups_with groups place word) (slice_set old place word) (length-set old place word ∙ words_long pages groups)
    (λ at at_in.
    elim (which at place) [
      | inl here ↦
          ap (word_in (groups_with groups place word)) here
          ∙ (hit groups place word inside whole words
          ∙ (sym (get_or-set_same old place word 0 (subst (λ (n : ℕ). place < n) (sym (words_long pages groups)) within))
          ∙ ap (slice_index (slice_set old place word)) (sym here)))
      | inr other ↦
          miss groups place word at inside whole other
          ∙ (sym (word_is pages groups at at_in) ∙ sym (get_or-set_other old place at word 0 other))
    ])

-- the same with groups behind pointers
pub pointers_set : {A : Type 0} (f : A → List (List ℕ)) (groups old : List A) (before after : A) (group : List (List ℕ)) (pages page place word : ℕ) (words : List ℕ)
    → page ≡ page_of_place place → map f groups ≡ map f old → words_in pages (map f old) ≡ words → length old ≡ group_count_of pages → place < word_count_of pages
    → group ≡ f before → before ≡ slice_index_or groups (page / GROUP_PAGES) before → f after ≡ group_with group (page % GROUP_PAGES) (place % PAGE_WORDS) word
    → length group ≡ GROUP_PAGES → length (slice_index_or group (page % GROUP_PAGES) []) ≡ PAGE_WORDS
    → words_in pages (map f (slice_set groups (page / GROUP_PAGES) after)) ≡ slice_set words place word
pointers_set f groups old before after group pages page place word words of same is count within group_is before_is after_is whole long =
    let long_old : length (map f old) ≡ group_count_of pages = length-map old f ∙ count in
    let inside : page / GROUP_PAGES < length groups = omega (arith, of, within, long_old, ap length same, length-map groups f) in
    let here : group ≡ slice_index_or (map f old) (page / GROUP_PAGES) [] =
    group_is ∙ (ap f before_is ∙ (sym (get_or-map f groups (page / GROUP_PAGES) before [] inside)
    ∙ ap (λ (xs : List (List (List ℕ))). slice_index_or xs (page / GROUP_PAGES) []) same))
    in
    let there : group ≡ slice_index_or (map f old) (page_of_place place / GROUP_PAGES) [] =
    here ∙ ap (λ (n : ℕ). slice_index_or (map f old) (n / GROUP_PAGES) []) of
    in
    ap (words_in pages)
    (pointer_set f groups (map f old) (page / GROUP_PAGES) after (group_with group (page % GROUP_PAGES) (place % PAGE_WORDS) word) same after_is
    ∙ (ap (λ (n : ℕ). slice_set (map f old) (n / GROUP_PAGES) (group_with group (n % GROUP_PAGES) (place % PAGE_WORDS) word)) of
    ∙ ap (λ (x : List (List ℕ)). slice_set (map f old) (page_of_place place / GROUP_PAGES) (group_with x (page_of_place place % GROUP_PAGES) (place % PAGE_WORDS) word)) there))
    ∙ (words_set pages (map f old) place word within long_old
    (ap length (sym there) ∙ whole)
    (ap (λ (x : List (List ℕ)). length (slice_index_or x (page_of_place place % GROUP_PAGES) [])) (sym there)
    ∙ (ap (λ (n : ℕ). length (slice_index_or group (n % GROUP_PAGES) [])) (sym of) ∙ long))
    ∙ ap (λ (xs : List ℕ). slice_set xs place word) is)
