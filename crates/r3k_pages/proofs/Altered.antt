-- The words of a page after changes.
use Rattle.std.proofs.Common.{◌≡◌, ℕ, ◌+◌, ◌-◌, ◌*◌, ◌/◌, ◌%◌, ◌<◌, ◌≤◌, ◌++◌, Bool, true, false, IsTrue, IsFalse, List, [], ◌∷◌, if◌then◌else◌, filter, not, nat_eq, refl, length, length-set, take, zero, suc, slice_index, slice_index_or, slice_set, inl, inr, sym, ap, ◌∙◌, arith}
use Rattle.std.specs.List.{list_any}
use Rattle.std.proofs.lemmas.Bool.{cases_Bool, cases_lt, eq-eqb, eqb-true, true≢false}
use Rattle.std.proofs.lemmas.Grind.{fold-append, same_number_lists}
use Rattle.std.proofs.lemmas.List.{get_or-set_same, get_or-set_other}
use Rattle.r3k_word.specs.declared.layout.TheConstants.{PAGE_WORDS}
use Rattle.r3k_pages.specs.declared.block.TheConstants.{BLOCK_WORDS}
use Rattle.r3k_pages.specs.declared.changes.Change.{Change}
use Rattle.r3k_pages.specs.Blocks.{IsBlockOf, SameBlock}
use Rattle.r3k_pages.specs.Changes.{with_changes, word_after}
use Rattle.r3k_pages.proofs.Blocks.{same_kept}
use Rattle.r3k_pages.proofs.Kept.{neither}
use Rattle.r3k_pages.proofs.Set.{which}

-- there are as many words
pub as_many : (words : List ℕ) (changes : List Change) → length (with_changes words changes) ≡ length words
as_many words [] = refl
as_many words (change ∷ changes) = as_many (slice_set words change.place change.word) changes ∙ length-set words change.place change.word

-- one change more
pub one_more : (words : List ℕ) (changes : List Change) (change : Change)
    → with_changes words (changes ++ change ∷ []) ≡ slice_set (with_changes words changes) change.place change.word
one_more words changes change = fold-append (λ (words : List ℕ) (change : Change). slice_set words change.place change.word) words changes (change ∷ [])

not_equal : (a b : ℕ) → ¬ (a ≡ b) → nat_eq a b ≡ false
not_equal a b other = elim (cases_Bool (nat_eq a b)) [ inl same ↦ absurd (other (eqb-true a b same)) | inr apart ↦ apart ]

apart_by : (test : ℕ → Bool) (a b : ℕ) → test a ≡ true → test b ≡ false → nat_eq a b ≡ false
apart_by test a b on off = not_equal a b (λ same. true≢false (sym on ∙ (ap test same ∙ off)))

-- a word of them
set_at : (words : List ℕ) (at word place : ℕ) → place < length words → slice_index (slice_set words at word) place ≡ (if nat_eq at place then word else slice_index words place)
set_at words at word place within =
    elim (cases_Bool (nat_eq at place)) [
      | inl here ↦
          rw here (ap (λ (n : ℕ). slice_index (slice_set words n word) place) (eqb-true at place here) ∙ get_or-set_same words place word 0 within)
      | inr apart ↦ rw apart (get_or-set_other words at place word 0 (λ same. true≢false (sym (eq-eqb at place (sym same)) ∙ apart)))
    ]

pub at_place : (words : List ℕ) (changes : List Change) (place : ℕ) → place < length words
    → slice_index (with_changes words changes) place ≡ word_after place (slice_index words place) changes
at_place words [] place within = refl
at_place words (change ∷ changes) place within =
    at_place (slice_set words change.place change.word) changes place (omega (arith, within, length-set words change.place change.word))
    ∙ ap (λ (word : ℕ). word_after place word changes) (set_at words change.place change.word place within)

-- the changes of some places
pub among : (test : ℕ → Bool) (changes : List Change) (place word : ℕ) → test place ≡ true
    → word_after place word (filter (λ change. test change.place) changes) ≡ word_after place word changes
among test [] place word on = refl
among test (change ∷ changes) place word on =
    elim (cases_Bool (test change.place)) [
      | inl passes ↦ rw passes (among test changes place (if nat_eq change.place place then change.word else word) on)
      | inr out ↦
          let apart : nat_eq change.place place ≡ false = not_equal change.place place (λ same. true≢false (sym on ∙ (ap test (sym same) ∙ out))) in
          rw (out, apart) (among test changes place word on)
    ]

pub not_among : (test : ℕ → Bool) (changes : List Change) (place word : ℕ) → test place ≡ false
    → word_after place word (filter (λ change. test change.place) changes) ≡ word
not_among test [] place word off = refl
not_among test (change ∷ changes) place word off =
    elim (cases_Bool (test change.place)) [
      | inl passes ↦
          let apart : nat_eq change.place place ≡ false = apart_by test change.place place passes off in
          rw passes
          (ap (λ (here : Bool). word_after place (if here then change.word else word) (filter (λ (change : Change). test change.place) changes)) apart
          ∙ not_among test changes place word off)
      | inr out ↦ rw out (not_among test changes place word off)
    ]

pub kept_few : (test : Change → Bool) (changes : List Change) (index : ℕ) → length (filter test (take index changes)) ≤ index
kept_few test changes zero = omega arith
kept_few test [] (suc index) = omega arith
kept_few test (change ∷ changes) (suc index) =
    elim (cases_Bool (test change)) [
      | inl passes ↦ rw passes (omega (arith, kept_few test changes index))
      | inr out ↦ rw out (omega (arith, kept_few test changes index))
    ]

-- a word that is set after the changes of other places
pub set_after : (words : List ℕ) (changes : List Change) (place word : ℕ)
    → with_changes words (filter (λ change. not (nat_eq change.place place)) changes ++ record { place = place; word = word } ∷ [])
    ≡ slice_set (with_changes words changes) place word
set_after words changes place word =
    let others = filter (λ (change : Change). not (nat_eq change.place place)) changes in
    let left = with_changes words others in
    let all = with_changes words changes in
    let left_long : length left ≡ length words = as_many words others in
    let all_long : length all ≡ length words = as_many words changes in
    one_more words others (record { place = place; word = word })
    ∙ same_number_lists (slice_set left place word) (slice_set all place word)
    (length-set left place word ∙ (left_long ∙ (sym all_long ∙ sym (length-set all place word))))
    (λ at within.
    let inside : at < length words = omega (arith, within, length-set left place word, left_long) in
    elim (which at place) [
      | inl here ↦
          ap (slice_index (slice_set left place word)) here
          ∙ (get_or-set_same left place word 0 (omega (arith, inside, here, left_long))
          ∙ (sym (get_or-set_same all place word 0 (omega (arith, inside, here, all_long)))
          ∙ ap (slice_index (slice_set all place word)) (sym here)))
      | inr other ↦
          get_or-set_other left place at word 0 other
          ∙ (at_place words others at inside
          ∙ (among (λ (n : ℕ). not (nat_eq n place)) changes at (slice_index words at) (ap not (not_equal at place other))
          ∙ (sym (at_place words changes at inside) ∙ sym (get_or-set_other all place at word 0 other))))
    ])

-- a word that no change touches
untouched : (changes : List Change) (block place word : ℕ) → place / BLOCK_WORDS ≡ block
    → list_any (λ change. nat_eq (change.place / BLOCK_WORDS) block) changes ≡ false → word_after place word changes ≡ word
untouched [] block place word in_block none = refl
untouched (change ∷ changes) block place word in_block none =
    let each = neither (nat_eq (change.place / BLOCK_WORDS) block) (list_any (λ (change : Change). nat_eq (change.place / BLOCK_WORDS) block) changes) none in
    let apart : nat_eq change.place place ≡ false =
    not_equal change.place place (λ same. true≢false (sym (eq-eqb _ _ (ap (λ (n : ℕ). n / BLOCK_WORDS) same ∙ in_block)) ∙ each.0))
    in
    rw apart (untouched changes block place word in_block each.1)

-- a block that no change touches
pub block_untouched : (page : List ℕ) (changes : List Change) (block : ℕ) (kept : List ℕ) → (block + 1) * BLOCK_WORDS ≤ length page
    → list_any (λ change. nat_eq (change.place / BLOCK_WORDS) block) changes ≡ false
    → IsBlockOf page block kept → IsBlockOf (with_changes page changes) block kept
block_untouched page changes block kept long none is = λ place low.
    is place low
    ∙ (sym (untouched changes block (block * BLOCK_WORDS + place) (slice_index page (block * BLOCK_WORDS + place)) (omega (arith, low)) none)
    ∙ sym (at_place page changes (block * BLOCK_WORDS + place) (omega (arith, low, long))))

-- a block with a change made in it
pub made_here : (page : List ℕ) (block : ℕ) (words : List ℕ) (place word : ℕ) → (block + 1) * BLOCK_WORDS ≤ length page → length words ≡ BLOCK_WORDS
    → place / BLOCK_WORDS ≡ block → IsBlockOf page block words → IsBlockOf (slice_set page place word) block (slice_set words (place % BLOCK_WORDS) word)
made_here page block words place word long all here is = λ at low.
    elim (which at (place % BLOCK_WORDS)) [
      | inl hit ↦
          let same : block * BLOCK_WORDS + at ≡ place = omega (arith, hit, here) in
          ap (slice_index (slice_set words (place % BLOCK_WORDS) word)) hit
          ∙ (get_or-set_same words (place % BLOCK_WORDS) word 0 (omega (arith, all))
          ∙ (sym (get_or-set_same page place word 0 (omega (arith, long, same, low))) ∙ ap (slice_index (slice_set page place word)) (sym same)))
      | inr miss ↦
          get_or-set_other words (place % BLOCK_WORDS) at word 0 miss
          ∙ (is at low ∙ sym (get_or-set_other page place (block * BLOCK_WORDS + at) word 0 (λ same. miss (omega (arith, same, low)))))
    ]

pub made_elsewhere : (page : List ℕ) (block : ℕ) (words : List ℕ) (place word : ℕ) → ¬ (place / BLOCK_WORDS ≡ block)
    → IsBlockOf page block words → IsBlockOf (slice_set page place word) block words
made_elsewhere page block words place word other is = λ at low.
    is at low ∙ sym (get_or-set_other page place (block * BLOCK_WORDS + at) word 0 (λ same. other (omega (arith, same, low))))

-- the words of a block are added, up to an index
pub record AreAdded (block index : ℕ) (kept words : List ℕ) (before now : List Change) : Type 0 where
  pub done : (page : List ℕ) → (block + 1) * BLOCK_WORDS ≤ length page → IsBlockOf (with_changes page before) block kept
      → (place : ℕ) → place < index → place < BLOCK_WORDS → slice_index words place ≡ slice_index (with_changes page now) (block * BLOCK_WORDS + place)
  pub left : (page : List ℕ) → (block + 1) * BLOCK_WORDS ≤ length page → IsBlockOf (with_changes page before) block kept
      → (place : ℕ) → index ≤ place → place < BLOCK_WORDS → slice_index kept place ≡ slice_index (with_changes page now) (block * BLOCK_WORDS + place)
  pub others : (page : List ℕ) (place : ℕ) → ¬ (place / BLOCK_WORDS ≡ block)
      → slice_index (with_changes page now) place ≡ slice_index (with_changes page before) place

pub none_added : (block : ℕ) (kept words : List ℕ) (now : List Change) → AreAdded block 0 kept words now now
none_added block kept words now = record {
  done = λ page long is place none low. absurd (let e : ⊥ = omega (arith, none) in e);
  left = λ page long is place none low. is place low;
  others = λ page place other. refl;
}

pub same_added : (block index : ℕ) (kept words : List ℕ) (before now : List Change) → slice_index words index ≡ slice_index kept index
    → AreAdded block index kept words before now → AreAdded block (index + 1) kept words before now
same_added block index kept words before now same so_far = record {
  done = λ page long is place less low.
      elim (which place index) [
        | inl here ↦ ap (slice_index words) here ∙ (same ∙ (ap (slice_index kept) (sym here) ∙ so_far.left page long is place (omega (arith, here)) low))
        | inr other ↦ so_far.done page long is place (omega (arith, less, other)) low
      ];
  left = λ page long is place more low. so_far.left page long is place (omega (arith, more)) low;
  others = so_far.others;
}

pub one_added : (block index : ℕ) (kept words : List ℕ) (before now : List Change) (change : Change) → index < BLOCK_WORDS
    → change.place ≡ block * BLOCK_WORDS + index → change.word ≡ slice_index words index
    → AreAdded block index kept words before now → AreAdded block (index + 1) kept words before (now ++ change ∷ [])
one_added block index kept words before now change inside at is_word so_far =
    let apart : (page : List ℕ) (place : ℕ) → ¬ (place ≡ change.place)
    → slice_index (with_changes page (now ++ change ∷ [])) place ≡ slice_index (with_changes page now) place
    = λ page place other. ap (λ (words : List ℕ). slice_index words place) (one_more page now change)
    ∙ get_or-set_other (with_changes page now) change.place place change.word 0 other in record {
      done = λ page long is place less low.
          elim (which place index) [
            | inl here ↦
                ap (slice_index words) here
                ∙ (sym is_word
                ∙ (sym (get_or-set_same (with_changes page now) change.place change.word 0 (omega (arith, long, inside, at, as_many page now)))
                ∙ (ap (slice_index (slice_set (with_changes page now) change.place change.word)) (let e : change.place ≡ block * BLOCK_WORDS + place = omega (arith, at, here) in e)
                ∙ ap (λ (words : List ℕ). slice_index words (block * BLOCK_WORDS + place)) (sym (one_more page now change)))))
            | inr other ↦
                so_far.done page long is place (omega (arith, less, other)) low
                ∙ sym (apart page (block * BLOCK_WORDS + place) (λ same. other (omega (arith, same, at))))
          ];
      left = λ page long is place more low.
          so_far.left page long is place (omega (arith, more)) low
          ∙ sym (apart page (block * BLOCK_WORDS + place) (λ same. absurd (let e : ⊥ = omega (arith, same, at, more) in e)));
      others = λ page place other.
          apart page place (λ same. other (omega (arith, same, at, inside))) ∙ so_far.others page place other;
    }

-- the words of a page are found, up to a block
pub record AreFound (whole words : List ℕ) (marks : List Bool) (first index : ℕ) (few : List Change) : Type 0 where
  pub done : (place : ℕ) → place < index * BLOCK_WORDS → slice_index (with_changes whole few) place ≡ slice_index words place
  pub left : (place : ℕ) → index * BLOCK_WORDS ≤ place → place < PAGE_WORDS
      → slice_index (with_changes whole few) place
      ≡ (if slice_index_or marks (first + place / BLOCK_WORDS) false then slice_index whole place else slice_index words place)

pub none_found : (whole words : List ℕ) (marks : List Bool) (first : ℕ) (changes few : List Change) → length whole ≡ PAGE_WORDS
    → few ≡ filter (λ change. not (slice_index_or marks (first + change.place / BLOCK_WORDS) false)) changes
    → ((place : ℕ) → place < PAGE_WORDS → IsFalse (slice_index_or marks (first + place / BLOCK_WORDS) false)
    → slice_index (with_changes whole changes) place ≡ slice_index words place)
    → AreFound whole words marks first 0 few
none_found whole words marks first changes few long is same =
    let test : ℕ → Bool = λ (place : ℕ). not (slice_index_or marks (first + place / BLOCK_WORDS) false) in record {
      done = λ place none. absurd (let e : ⊥ = omega (arith, none) in e);
      left = λ place none within.
          let inside : place < length whole = omega (arith, within, long) in
          ap (λ (changes : List Change). slice_index (with_changes whole changes) place) is
          ∙ (at_place whole (filter (λ (change : Change). test change.place) changes) place inside
          ∙ (elim (cases_Bool (slice_index_or marks (first + place / BLOCK_WORDS) false)) [
            | inl marked ↦ not_among test changes place (slice_index whole place) (ap not marked) ∙ (rw marked refl)
            | inr unmarked ↦
                among test changes place (slice_index whole place) (ap not unmarked)
                ∙ (sym (at_place whole changes place inside) ∙ (same place within unmarked ∙ (rw unmarked refl)))
          ]));
    }

at_mark : (marks : List Bool) (first index place : ℕ) → index * BLOCK_WORDS ≤ place → place < (index + 1) * BLOCK_WORDS
    → slice_index_or marks (first + place / BLOCK_WORDS) false ≡ slice_index_or marks (first + index) false
at_mark marks first index place least below =
    ap (λ (n : ℕ). slice_index_or marks (first + n) false) (let e : place / BLOCK_WORDS ≡ index = omega (arith, least, below) in e)

pub unmarked_found : (whole words : List ℕ) (marks : List Bool) (first index : ℕ) (few : List Change) → index * BLOCK_WORDS < PAGE_WORDS
    → slice_index_or marks (first + index) false ≡ false → AreFound whole words marks first index few → AreFound whole words marks first (index + 1) few
unmarked_found whole words marks first index few within unmarked so_far = record {
  done = λ place less.
      elim (cases_lt place (index * BLOCK_WORDS)) [
        | inl before ↦ so_far.done place before
        | inr here ↦
            so_far.left place here (omega (arith, less, within))
            ∙ (rw (at_mark marks first index place here less ∙ unmarked) refl)
      ];
  left = λ place least within. so_far.left place (omega (arith, least)) within;
}

pub marked_found : (whole words : List ℕ) (marks : List Bool) (first index : ℕ) (few more : List Change) (kept part : List ℕ) → index * BLOCK_WORDS < PAGE_WORDS
    → slice_index_or marks (first + index) false ≡ true → IsBlockOf whole index kept → IsBlockOf words index part
    → (IsBlockOf (with_changes whole few) index kept → IsBlockOf (with_changes whole more) index part)
    → ((place : ℕ) → ¬ (place / BLOCK_WORDS ≡ index) → slice_index (with_changes whole more) place ≡ slice_index (with_changes whole few) place)
    → AreFound whole words marks first index few → AreFound whole words marks first (index + 1) more
marked_found whole words marks first index few more kept part within marked of_whole of_words set others so_far =
    let here : IsBlockOf (with_changes whole more) index part =
    set (λ place low.
    let at = index * BLOCK_WORDS + place in
    of_whole place low
    ∙ sym (so_far.left at (omega arith) (omega (arith, low, within))
    ∙ (rw (at_mark marks first index at (omega arith) (omega (arith, low)) ∙ marked) refl)))
    in record {
      done = λ place less.
          elim (cases_lt place (index * BLOCK_WORDS)) [
            | inl before ↦ others place (λ same. absurd (let e : ⊥ = omega (arith, same, before) in e)) ∙ so_far.done place before
            | inr least ↦
                let low : place - index * BLOCK_WORDS < BLOCK_WORDS = omega (arith, less, least) in
                let back : index * BLOCK_WORDS + (place - index * BLOCK_WORDS) ≡ place = omega (arith, least) in
                ap (slice_index (with_changes whole more)) (sym back)
                ∙ (sym (here (place - index * BLOCK_WORDS) low) ∙ (of_words (place - index * BLOCK_WORDS) low ∙ ap (slice_index words) back))
          ];
      left = λ place least within.
          others place (λ same. absurd (let e : ⊥ = omega (arith, same, least) in e)) ∙ so_far.left place (omega (arith, least)) within;
    }

pub all_found : (whole words : List ℕ) (marks : List Bool) (first index : ℕ) (few : List Change) → length whole ≡ PAGE_WORDS → length words ≡ PAGE_WORDS
    → PAGE_WORDS ≤ index * BLOCK_WORDS → AreFound whole words marks first index few → with_changes whole few ≡ words
all_found whole words marks first index few whole_long words_long most found =
    same_number_lists (with_changes whole few) words (as_many whole few ∙ (whole_long ∙ sym words_long))
    (λ place within. found.done place (omega (arith, within, as_many whole few, whole_long, most)))

-- blocks that are the same where their words are
pub same_block : (a b x y : List ℕ) (block : ℕ) (r : Bool) → IsBlockOf a block x → IsBlockOf b block y → length x ≡ BLOCK_WORDS → length y ≡ BLOCK_WORDS
    → (IsTrue r → x ≡ y) → (x ≡ y → IsTrue r) → (IsTrue r → SameBlock block a b) × (SameBlock block a b → IsTrue r)
same_block a b x y block r of_a of_b long_x long_y to_same from_same = (
  λ yes. same_kept a b x y block of_a of_b (to_same yes),
  λ same.
      from_same (same_number_lists x y (long_x ∙ sym long_y)
      (λ place within.
      let low : place < BLOCK_WORDS = omega (arith, within, long_x) in
      of_a place low ∙ (same place low ∙ sym (of_b place low)))),
)
