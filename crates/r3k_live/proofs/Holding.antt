-- The words that are held, as more of them are looked at.
use Rattle.std.proofs.Common.{rules, not, Decides, ◌≡◌, ℕ, zero, suc, ◌+◌, ◌*◌, ◌/◌, ◌<◌, ◌≤◌, Bool, true, false, ◌||◌, ◌&&◌, ◌⊎◌, nat_eq, IsTrue, List, [], ◌∷◌, ◌++◌, All, Contains, length, slice_index, slice_index_or, take, refl, sym, ap, subst, ◌∙◌, arith, inl, inr}
use Rattle.std.specs.Cmp.Lexicographic.{pointwise, pointwise_decides}
use Rattle.std.proofs.Math.Bool.{not-not}
use Rattle.std.proofs.lemmas.Bool.{cases_Bool, cases_lt, eq-eqb, eqb-true, le-leb, le-ltb, lt-ltb, true≢false}
use Rattle.std.proofs.lemmas.List.{get_or_past, take_more}
use Rattle.std.proofs.lemmas.List.Elements.{All-append, Contains-append_left, Contains-push}
use Rattle.r3k_word.specs.Layout.{page_of_place}
use Rattle.r3k_word.specs.declared.layout.TheConstants.{PAGE_WORDS}
use Rattle.r3k_pages.specs.Pages.{holds}
use Rattle.r3k_live.proofs.Recorded.{any_more}
use Rattle.r3k_live.specs.Recording.{Recording}
use Rattle.r3k_live.specs.Stores.{AreInBlocks}
use Rattle.r3k_live.specs.Waiting.{HasPassed, IsHeld, IsPassedBy, come_later, held_at, is_among, passed_by}
use Rattle.r3k_live.specs.declared.stores.Held.{Held}
use Rattle.r3k_pages.specs.declared.block.TheConstants.{BLOCK_WORDS}

-- the words of the places from one on and before another one are held, beside those that were
pub record AreHeld (since first below : ℕ) (last words : List ℕ) (old held : List Held) : Type 0 where
  pub are : All (IsHeld since last words) old → All (IsHeld since last words) held
  pub more : (word : Held) → Contains old word → Contains held word
  pub all : (place : ℕ) → first ≤ place → place < below → since < slice_index last place → Contains held (held_at words place)

-- the one word
one : (since : ℕ) (last words : List ℕ) (word : Held) → IsHeld since last words word → All (IsHeld since last words) (word ∷ [])
one since last words word is zero d within = is
one since last words word is (suc k) d within = absurd (let e : ⊥ = omega (arith, within) in e)

-- one more word that has a step
pub held_one : (since first place : ℕ) (last words : List ℕ) (old held now : List Held) → place < length last → since < slice_index last place
    → now ≡ held ++ held_at words place ∷ [] → AreHeld since first place last words old held → AreHeld since first (place + 1) last words old now
held_one since first place last words old held now within later is so_far =
    subst (AreHeld since first (place + 1) last words old) (sym is) (record {
      are = λ before. All-append (IsHeld since last words) held (held_at words place ∷ []) (so_far.are before)
          (one since last words (held_at words place) (record { within = within; later = later; word = refl }));
      more = λ word there. Contains-append_left held (held_at words place ∷ []) word (so_far.more word there);
      all = λ other least below has.
          elim (cases_lt other place) [
            | inl before ↦ Contains-append_left held (held_at words place ∷ []) (held_at words other) (so_far.all other least before has)
            | inr past ↦
                subst (λ (at : ℕ). Contains (held ++ held_at words place ∷ []) (held_at words at)) (let e : place ≡ other = omega (arith, past, below) in e)
                (Contains-push held (held_at words place))
          ];
    })

-- one more that has none
pub held_none : (since first place : ℕ) (last words : List ℕ) (old held : List Held) → slice_index last place ≤ since
    → AreHeld since first place last words old held → AreHeld since first (place + 1) last words old held
held_none since first place last words old held none so_far = record {
  are = so_far.are;
  more = so_far.more;
  all = λ other least below has.
      elim (cases_lt other place) [
        | inl before ↦ so_far.all other least before has
        | inr past ↦ absurd (let e : ⊥ = omega (arith, has, none, ap (slice_index last) (let e : place ≡ other = omega (arith, past, below) in e)) in e)
      ];
}

-- the words of one block more
pub held_block : (since first block : ℕ) (last words : List ℕ) (old held now : List Held)
    → (All (IsHeld since last words) held → All (IsHeld since last words) now) → ((word : Held) → Contains held word → Contains now word)
    → ((place : ℕ) → place / BLOCK_WORDS ≡ block → since < slice_index last place → Contains now (held_at words place))
    → AreHeld since first (block * BLOCK_WORDS) last words old held → AreHeld since first ((block + 1) * BLOCK_WORDS) last words old now
held_block since first block last words old held now are more all so_far = record {
  are = λ before. are (so_far.are before);
  more = λ word there. more word (so_far.more word there);
  all = λ place least below has.
      elim (cases_lt place (block * BLOCK_WORDS)) [
        | inl before ↦ more (held_at words place) (so_far.all place least before has)
        | inr past ↦ all place (omega (arith, past, below)) has
      ];
}

-- of one that is not marked
pub held_unmarked : (since first block : ℕ) (last words : List ℕ) (blocks : List Bool) (old held : List Held) → AreInBlocks last blocks
    → slice_index_or blocks block false ≡ false
    → AreHeld since first (block * BLOCK_WORDS) last words old held → AreHeld since first ((block + 1) * BLOCK_WORDS) last words old held
held_unmarked since first block last words blocks old held marked none so_far =
    held_block since first block last words old held held (λ before. before) (λ word there. there)
    (λ place here has.
    absurd (true≢false (sym (marked place (omega (arith, has))) ∙ (ap (λ (n : ℕ). slice_index_or blocks n false) here ∙ none))))
    so_far

-- a page of those looked at so far and of one more
pub one_page_more : (pages : List ℕ) (k page : ℕ) → k < length pages → IsTrue (holds (take (k + 1) pages) page)
    → IsTrue (holds (take k pages) page) ⊎ (page ≡ slice_index pages k)
one_page_more pages k page within there =
    elim (cases_Bool (holds (take k pages) page)) [
      | inl so_far ↦ inl so_far
      | inr other ↦
          inr (sym (eqb-true (slice_index pages k) page
          (ap (λ (b : Bool). b || nat_eq (slice_index pages k) page) (sym other)
          ∙ (sym (ap (λ (set : List ℕ). holds set page) (take_more pages k 0 within) ∙ any_more (λ other. nat_eq other page) (take k pages) (slice_index pages k)) ∙ there))))
    ]

-- the words of the pages looked at so far are held
pub record AreOfPages (since : ℕ) (last words : List ℕ) (pages : List ℕ) (held : List Held) : Type 0 where
  pub are : All (IsHeld since last words) held
  pub all : (place : ℕ) → IsTrue (holds pages (page_of_place place)) → since < slice_index last place → Contains held (held_at words place)

-- and those of one more
pub held_page : (since k : ℕ) (last words pages : List ℕ) (held now : List Held) → k < length pages
    → (All (IsHeld since last words) held → All (IsHeld since last words) now) → ((word : Held) → Contains held word → Contains now word)
    → ((place : ℕ) → page_of_place place ≡ slice_index pages k → since < slice_index last place → Contains now (held_at words place))
    → AreOfPages since last words (take k pages) held → AreOfPages since last words (take (k + 1) pages) now
held_page since k last words pages held now within are more all so_far = record {
  are = are so_far.are;
  all = λ place there has.
      elim (one_page_more pages k (page_of_place place) within there) [
        | inl before ↦ more (held_at words place) (so_far.all place before has)
        | inr here ↦ all place here has
      ];
}

-- of one of ROM
pub held_rom : (since k count : ℕ) (last words pages : List ℕ) (held : List Held) → k < length pages → length last ≡ count * PAGE_WORDS
    → count ≤ slice_index pages k → AreOfPages since last words (take k pages) held → AreOfPages since last words (take (k + 1) pages) held
held_rom since k count last words pages held within long past so_far =
    held_page since k last words pages held held within (λ before. before) (λ word there. there)
    (λ place here has.
    absurd (let e : ⊥ = omega (arith, has, get_or_past last place 0 (omega (arith, long, past, here))) in e))
    so_far

-- a word that is among others is one of them
among_has : (P : Held → Type 0) (held : List Held) (place : ℕ) → All P held → IsTrue (is_among held place) → (word : Held) × (word.place ≡ place) × P word
among_has P [] place all is = absurd (true≢false (sym is))
among_has P (word ∷ rest) place all is =
    elim (cases_Bool (nat_eq word.place place)) [
      | inl here ↦ (word, eqb-true word.place place here, all 0 word (omega arith))
      | inr other ↦
          among_has P rest place (λ k d within. all (suc k) d (omega (arith, within)))
          (sym (ap (λ (b : Bool). b || is_among rest place) other) ∙ is)
    ]

-- a word that comes later had a step
pub had_step : (steps passed place : ℕ) (last : List ℕ) (held : List Held) → All (IsPassedBy steps passed last) held
    → 0 < come_later (is_among held place) steps passed (slice_index last place) → 0 < slice_index last place
had_step steps passed place last held all some =
    elim (cases_Bool (is_among held place)) [
      | inl among ↦
          let word = among_has (IsPassedBy steps passed last) held place all among in
          subst (λ (at : ℕ). 0 < slice_index last at) word.1 word.2.some
      | inr other ↦ rw other at some
    ]

-- the words among those that are held come later, as all do that have a later step
pub passed_is : (since steps passed place : ℕ) (last : List ℕ) (held : List Held)
    → All (λ word. (word.place < length last) × (since < slice_index last word.place)) held
    → (since < slice_index last place → IsTrue (is_among held place)) → slice_index last place ≤ steps
    → come_later (is_among held place) steps passed (slice_index last place) ≡ passed_by since passed (slice_index last place)
passed_is since steps passed place last held are all within =
    elim (cases_lt since (slice_index last place)) [
      | inl later ↦ rw (all later, le-leb (slice_index last place) steps within, lt-ltb since (slice_index last place) later) refl
      | inr not_later ↦ rw (not_among (cases_Bool (is_among held place)) not_later, le-ltb since (slice_index last place) not_later) refl
    ]
  where
    not_among : (IsTrue (is_among held place)) ⊎ (is_among held place ≡ false) → slice_index last place ≤ since → is_among held place ≡ false
    not_among (inr other) less = other
    not_among (inl among) less =
        let word = among_has (λ word. (word.place < length last) × (since < slice_index last word.place)) held place are among in
        absurd (let e : ⊥ = omega (arith, less, subst (λ (at : ℕ). since < slice_index last at) word.1 word.2.1) in e)

-- those that have a later step pass all steps
pub pass_all : (since steps passed : ℕ) (last : List ℕ) (held : List Held) → steps ≤ since + passed
    → All (λ word. (word.place < length last) × (since < slice_index last word.place)) held → All (IsPassedBy steps passed last) held
pass_all since steps passed last held again are = λ k d within.
    let here = are k d within in record { within = here.0; some = omega (arith, here.1); after = omega (arith, again, here.1) }

pub passed_too : (pages since passed : ℕ) (inside r later : Recording) → inside ≡ r → HasPassed pages since passed inside later → HasPassed pages since passed r later
passed_too pages since passed inside r later same = subst (λ (r : Recording). HasPassed pages since passed r later) same

-- equal lists of words that are held
held_decides : (a b : Held) → Decides (nat_eq a.place b.place && nat_eq a.word b.word) (a ≡ b)
held_decides a b = search rules

pub same_held : (a b : List Held) → false ≡ not (pointwise (λ (a b : Held). nat_eq a.place b.place && nat_eq a.word b.word) a b) → a ≡ b
same_held a b same =
    (pointwise_decides held_decides a b).0
    (sym (not-not (pointwise (λ (a b : Held). nat_eq a.place b.place && nat_eq a.word b.word) a b)) ∙ ap not (sym same))

-- those that are held are among themselves
pub is_one_of : (held : List Held) (words : List ℕ) (place : ℕ) → Contains held (held_at words place) → IsTrue (is_among held place)
is_one_of [] words place (k, within, is) = absurd (let e : ⊥ = omega (arith, within) in e)
is_one_of (word ∷ rest) words place (zero, within, is) = rw (eq-eqb word.place place (ap (λ (w : Held). w.place) is)) refl
is_one_of (word ∷ rest) words place (suc k, within, is) =
    or_true (nat_eq word.place place) (is_among rest place) (is_one_of rest words place (k, omega (arith, within), is))
  where
    or_true : (a b : Bool) → IsTrue b → IsTrue (a || b)
    or_true true b is = refl
    or_true false b is = is

pub later_held : (since : ℕ) (last words : List ℕ) (held : List Held) → All (IsHeld since last words) held
    → All (λ word. (word.place < length last) × (since < slice_index last word.place)) held
later_held since last words held are = λ k d within. let here = are k d within in (here.within, here.later)
