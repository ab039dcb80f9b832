-- How the words of a line follow from where its blanks stand.
use Rattle.std.proofs.Common.{◌≡◌, ℕ, zero, suc, ◌<◌, ◌≤◌, true, false, List, [], ◌∷◌, ◌++◌, length, get_or, take, drop, filter, ap, sym, subst, add-zero, refl, arith, ltb, ◌∙◌, Bool, not}
use Rattle.std.specs.List.{slice_split, onto_first, AllWithin, position_or_len}
use Rattle.std.proofs.lemmas.List.{get_or-drop, length-take, length-drop, append-nil, nil_from_length}
use Rattle.std.proofs.lemmas.List.Splits.{slice_split-cons_yes, slice_split-cons_no}
use Rattle.std.proofs.lemmas.List.Sums.{prefix_len-le-length, fails_before_first, passes_at_first}
use Rattle.std.proofs.lemmas.Bool.{lt-ltb}
use Rattle.wb_text.specs.Words.{is_blank, words_of}

-- blanks before a text make no word
pub words_of-blanks : (xs : List ℕ) (i : ℕ) → i ≤ length xs
    → AllWithin (λ b. is_blank b ≡ true) xs 0 i → words_of xs ≡ words_of (drop i xs)
unfolding words_of
words_of-blanks xs zero fits blank = refl
words_of-blanks [] (suc i) fits blank = absurd (omega arith)
words_of-blanks (x ∷ xs) (suc i) fits blank =
    rw (slice_split-cons_yes is_blank x xs (blank 0 x (omega arith) (omega arith)))
    (words_of-blanks xs i (omega arith) (λ k d low high. blank (suc k) d (omega arith) (omega arith)))

-- the first part with more in front of it
abbrev onto_front : List ℕ → List (List ℕ) → List (List ℕ)
onto_front [] parts = parts
onto_front (x ∷ xs) parts = onto_first x (onto_front xs parts)

onto_front-cons : (xs part : List ℕ) (parts : List (List ℕ))
    → onto_front xs (part ∷ parts) ≡ (xs ++ part) ∷ parts
onto_front-cons [] part parts = refl
onto_front-cons (x ∷ xs) part parts = ap (onto_first x) (onto_front-cons xs part parts)

-- a front without a blank belongs to the first part
slice_split-front : (xs : List ℕ) (i : ℕ) → i ≤ length xs
    → AllWithin (λ b. is_blank b ≡ false) xs 0 i
    → slice_split is_blank xs ≡ onto_front (take i xs) (slice_split is_blank (drop i xs))
slice_split-front xs zero fits here = refl
slice_split-front [] (suc i) fits here = absurd (omega arith)
slice_split-front (x ∷ xs) (suc i) fits here =
    slice_split-cons_no is_blank x xs (here 0 x (omega arith) (omega arith))
    ∙ ap (onto_first x) (slice_split-front xs i (omega arith) (λ k d low high. here (suc k) d (omega arith) (omega arith)))

-- a word, and then nothing or a blank
word_then : (word rest : List ℕ) → 0 < length word
    → ((d : ℕ) → 0 < length rest → is_blank (get_or rest 0 d) ≡ true)
    → filter (λ w. ltb 0 (length w)) (onto_front word (slice_split is_blank rest)) ≡ word ∷ words_of rest
unfolding words_of
word_then word [] long blank = rw (onto_front-cons word [] [], append-nil word, lt-ltb 0 (length word) long) refl
word_then word (x ∷ rest) long blank =
    rw (slice_split-cons_yes is_blank x rest (blank x (omega arith)), onto_front-cons word [] (slice_split is_blank rest), append-nil word, lt-ltb 0 (length word) long) refl

-- the word at the front of a text
pub words_of-word : (xs : List ℕ) (i : ℕ) → 0 < i → i ≤ length xs
    → AllWithin (λ b. is_blank b ≡ false) xs 0 i
    → ((d : ℕ) → i < length xs → is_blank (get_or xs i d) ≡ true)
    → words_of xs ≡ take i xs ∷ words_of (drop i xs)
unfolding words_of
words_of-word xs i some fits here blank =
    let long : 0 < length (take i xs) = omega (arith, length-take i xs) in
    let next = λ (d : ℕ) (more : 0 < length (drop i xs)).
    subst (λ b. is_blank b ≡ true) (sym (get_or-drop i xs 0 d ∙ ap (λ k. get_or xs k d) (add-zero i))) (blank d (omega (arith, length-drop i xs))) in
    ap (filter (λ w. ltb 0 (length w))) (slice_split-front xs i fits here) ∙ word_then (take i xs) (drop i xs) long next

-- at most to the end
pub position_or_len-le-length : {X : Type 0} (p : X → Bool) (xs : List X)
    → position_or_len p xs ≤ length xs
position_or_len-le-length p xs = prefix_len-le-length (λ x. not (p x)) xs

not-true : (b : Bool) → not b ≡ false → b ≡ true
not-true true h = refl
not-true false h = sym h

not-false : (b : Bool) → not b ≡ true → b ≡ false
not-false true h = sym h
not-false false h = refl

-- blanks before the first word make no word
pub words_of-rest : (xs : List ℕ)
    → words_of xs ≡ words_of (drop (position_or_len (λ byte. not (is_blank byte)) xs) xs)
words_of-rest xs =
    words_of-blanks xs (position_or_len (λ byte. not (is_blank byte)) xs) (position_or_len-le-length (λ byte. not (is_blank byte)) xs)
    (λ k d low high. not-true (is_blank (get_or xs k d)) (fails_before_first (λ byte. not (is_blank byte)) xs k d high))

-- the rest begins with a letter
pub starts_with_letter : (xs : List ℕ) (d : ℕ)
    → position_or_len (λ byte. not (is_blank byte)) xs < length xs
    → is_blank (get_or (drop (position_or_len (λ byte. not (is_blank byte)) xs) xs) 0 d) ≡ false
starts_with_letter xs d inside =
    let n = position_or_len (λ byte. not (is_blank byte)) xs in
    subst (λ b. is_blank b ≡ false) (sym (get_or-drop n xs 0 d ∙ ap (λ k. get_or xs k d) (add-zero n)))
    (not-false (is_blank (get_or xs n d)) (passes_at_first (λ byte. not (is_blank byte)) xs d inside))

-- a text that begins with a letter begins with a word
pub words_of-first : (xs : List ℕ) (d : ℕ) → 0 < length xs → is_blank (get_or xs 0 d) ≡ false
    → (words_of xs ≡ take (position_or_len is_blank xs) xs ∷ words_of (drop (position_or_len is_blank xs) xs)) × (0 < position_or_len is_blank xs)
words_of-first [] d some letter = absurd (omega arith)
words_of-first (x ∷ xs) d some letter =
    let long : 0 < position_or_len is_blank (x ∷ xs) = rw letter (omega arith) in (
      words_of-word (x ∷ xs) (position_or_len is_blank (x ∷ xs)) long (position_or_len-le-length is_blank (x ∷ xs))
          (λ k d low high. fails_before_first is_blank (x ∷ xs) k d high)
          (λ d inside. passes_at_first is_blank (x ∷ xs) d inside),
      long,
    )

-- nothing but blanks
pub words_of-nil : (xs rest : List ℕ)
    → rest ≡ drop (position_or_len (λ byte. not (is_blank byte)) xs) xs → length rest ≡ 0
    → words_of xs ≡ []
unfolding words_of
words_of-nil xs rest is none = words_of-rest xs ∙ ap words_of (sym is ∙ nil_from_length rest none)

-- the first word, after the blanks before it
pub words_of-first_word : (xs rest : List ℕ)
    → rest ≡ drop (position_or_len (λ byte. not (is_blank byte)) xs) xs → 0 < length rest
    → (words_of xs ≡ take (position_or_len is_blank rest) rest ∷ words_of (drop (position_or_len is_blank rest) rest)) × (0 < position_or_len is_blank rest)
words_of-first_word xs rest is some =
    let n = position_or_len (λ byte. not (is_blank byte)) xs in
    let long : 0 < length (drop n xs) = subst (λ ys. 0 < length ys) is some in
    let first = words_of-first rest 0 some (subst (λ ys. is_blank (get_or ys 0 0) ≡ false) (sym is) (starts_with_letter xs 0 (omega (arith, length-drop n xs)))) in
    (words_of-rest xs ∙ ap words_of (sym is) ∙ first.0, first.1)
