-- Words of which those in the pages of a set are another memory's.
use Rattle.std.proofs.Common.{◌≡◌, ℕ, ◌/◌, ◌≢◌, Bool, List, length, Option, Some, None, IsTrue, IsFalse, slice_index, slice_set, nat_eq, inl, inr, sym, ap, ◌∙◌, arith}
use Rattle.std.proofs.Math.Path.{ap₂}
use Rattle.std.proofs.lemmas.Bool.{cases_Bool, cases_lt, eq-eqb, eqb-true, true≢false}
use Rattle.std.proofs.lemmas.List.{get_or-set_other, get_or_past, length-set}
use Rattle.std.proofs.lemmas.Grind.{get_or-set_at, same_number_lists}
use Rattle.r3k_word.specs.Layout.{page_of_place}
use Rattle.r3k_word.specs.Word.{merged}
use Rattle.r3k_exec.specs.declared.access.Covered.{Covered}
use Rattle.r3k_machine.specs.State.{State}
use Rattle.r3k_machine.specs.Step.{page_stored}
use Rattle.r3k_machine.specs.LoadStore.{lane_mask, words_with}
use Rattle.r3k_machine.specs.Locality.{AreWithPages, IsApart, IsWithPages, is_page}

-- a page that another set holds is not in one that is apart from it
pub not_here : (set other : ℕ → Bool) (page : ℕ) → IsApart set other → IsTrue (other page) → IsFalse (set page)
not_here set other page apart here =
    elim (cases_Bool (set page)) [ inl held ↦ absurd (true≢false (sym here ∙ apart page held)) | inr free ↦ free ]

-- a word that is read after a write, in two lists that hold the same there
read_after : (a b : List ℕ) (place value other : ℕ) → length b ≡ length a → slice_index a other ≡ slice_index b other
    → slice_index (slice_set a place value) other ≡ slice_index (slice_set b place value) other
read_after a b place value other long same =
    elim (cases_Bool (nat_eq other place)) [
      | inl here ↦
          let e : other ≡ place = eqb-true other place here in
          elim (cases_lt place (length a)) [
            | inl within ↦ get_or-set_at a place other value 0 e within ∙ sym (get_or-set_at b place other value 0 e (omega (arith, within, long)))
            | inr past ↦ get_or_past (slice_set a place value) other 0 (omega (arith, past, e, length-set a place value))
                ∙ sym (get_or_past (slice_set b place value) other 0 (omega (arith, past, e, long, length-set b place value)))
          ]
      | inr apart ↦
          let no : other ≢ place = λ e. true≢false (sym (eq-eqb other place e) ∙ apart) in
          get_or-set_other a place other value 0 no ∙ (same ∙ sym (get_or-set_other b place other value 0 no))
    ]

-- a write outside the set
written_outside : (set : ℕ → Bool) (own other words : List ℕ) (place value : ℕ) → IsFalse (set (page_of_place place))
    → AreWithPages set own other words → AreWithPages set (slice_set own place value) other (slice_set words place value)
written_outside set own other words place value free w = record {
  count = length-set words place value ∙ (w.count ∙ sym (length-set own place value));
  outside = λ at_place out. read_after own words place value at_place w.count (w.outside at_place out);
  inside = λ at_place held.
      w.inside at_place held
      ∙ sym (get_or-set_other words place at_place value 0 (λ e. true≢false (sym held ∙ (ap (λ (p : ℕ). set (page_of_place p)) e ∙ free))));
}

-- a store outside the set: what it keeps of its word is the same
stored_outside : (set : ℕ → Bool) (own other words : List ℕ) (address : ℕ) (covered : Covered) → IsFalse (set (page_of_place (address / 4)))
    → AreWithPages set own other words → AreWithPages set (words_with own (Some address) covered) other (words_with words (Some address) covered)
stored_outside set own other words address covered free w =
    rw (← w.outside (address / 4) free)
    (written_outside set own other words (address / 4) (merged (lane_mask covered.lanes) (slice_index own (address / 4)) covered.word) free w)

pub stored_apart : (set : ℕ → Bool) (own other words : List ℕ) (stored : Option ℕ) (covered : Covered)
    → IsApart set (λ page. is_page page (page_stored stored)) → AreWithPages set own other words
    → AreWithPages set (words_with own stored covered) other (words_with words stored covered)
stored_apart set own other words None covered apart w = w
stored_apart set own other words (Some address) covered apart w =
    stored_outside set own other words address covered
    (not_here set (λ page. is_page page (page_stored (Some address))) (page_of_place (address / 4)) apart
    (eq-eqb (address / 4096) (page_of_place (address / 4)) (omega arith)))
    w

-- words that are taken from the two memories are one list
pub one_list : (set : ℕ → Bool) (own other a b : List ℕ) → AreWithPages set own other a → AreWithPages set own other b → a ≡ b
one_list set own other a b u w =
    same_number_lists a b (u.count ∙ sym w.count)
    (λ place within. elim (cases_Bool (set (page_of_place place))) [
      | inl held ↦ sym (u.inside place held) ∙ w.inside place held
      | inr free ↦ sym (u.outside place free) ∙ w.outside place free
    ])

pub one_state : (set : ℕ → Bool) (s : State) (other : List ℕ) (a b : State) → IsWithPages set s other a → IsWithPages set s other b → a ≡ b
one_state set s other a b u w =
    ap₂ {C = State} (λ core words. record { core = core; words = words }) (u.core ∙ sym w.core) (one_list set s.words other a.words b.words u.words w.words)
